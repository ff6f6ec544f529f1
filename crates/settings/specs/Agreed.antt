-- 01, "Opening": what two ends agree on, each from its own settings and the fields of the other's A0 or A1.
use Rattle.std.specs.Prelude.{min}
use Rattle.telegram.specs.Time.{tenths_of}
use Rattle.telegram.specs.declared.kinds.Parameters.{Parameters as Fields}
use Rattle.channel.specs.declared.Parameters.{Parameters}
use Rattle.settings.specs.declared.Settings.{Settings}

-- the fields of our own A0 and A1
abbrev pub own_fields : Settings → Fields
own_fields s = record { block = s.block; t1 = s.t1; t3 = s.t3 }

-- what is agreed: the smaller block size, our own T1, the peer's T3
abbrev pub agreed : Settings → Fields → Parameters
agreed s p =
    record {
      terms = record { block = min s.block p.block; t1 = tenths_of s.t1; t3 = tenths_of p.t3; repeats = s.mntb; t_wait = s.t_wait };
      interval = s.t_ct;
      allowed = s.mnct;
      own = own_fields s;
    }
