-- 01, "The record and its calls": the settings, with default and range; 02, request 3: the default block size; 02, request 10: by the profile.
use Rattle.std.specs.Prelude.{◌%◌, Bool, not, ◌&&◌, ◌||◌, leb, ltb, eqb, if◌then◌else◌}
use Rattle.telegram.specs.Kinds.{bad_block}
use Rattle.telegram.specs.Time.{tenths_of}
use Rattle.profile.specs.Profile.{within, tp20}
use Rattle.profile.specs.declared.Profile.{Profile}
use Rattle.settings.specs.declared.Settings.{Settings}

-- the defaults of 01, but for the block size: "from 15 to 8" (02, request 3)
abbrev pub defaults : Settings
defaults =
    record {
      receive = 0x300;
      unit = 0x01;
      block = 8;
      t1 = 0x8A;
      t3 = 0x32;
      t_e = 1000;
      mntc = 10;
      mntb = 5;
      t_wait = 1000;
      t_ct = 10000;
      mnct = 5;
    }

-- the defaults of a row of TP 1.6 (02, 10): "MNTC 20, T3 0x4A, T1 0x8A, T_WAIT 500 tenths and the lowest unit and receive ID"; the others are those above
abbrev pub defaults16 : Profile → Settings
defaults16 p =
    record {
      receive = p.receives.least;
      unit = p.units.least % 256;
      block = defaults.block;
      t1 = defaults.t1;
      t3 = 0x4A;
      t_e = defaults.t_e;
      mntc = 20;
      mntb = defaults.mntb;
      t_wait = 500;
      t_ct = defaults.t_ct;
      mnct = defaults.mnct;
    }

-- T_WAIT lies "strictly between our own T3 and T1 settings", where the profile asks for it (02, 10)
abbrev pub wait_allowed : Profile → Settings → Bool
wait_allowed p s = not p.bounded || (ltb (tenths_of s.t3) s.t_wait && ltb s.t_wait (tenths_of s.t1))

-- receive ID and unit in the profile's ranges, block size 1..15, T1's scale not 0, T_E 1..10,000, T_WAIT 1..65,535, T3 not below the profile's least;
-- MNTC, repeats, interval and tests are free in their widths
unfoldable pub allowed_by : Profile → Settings → Bool
allowed_by p s =
    within p.receives s.receive && within p.units s.unit && not (bad_block s.block)
    && not (eqb (s.t1 % 64) 0) && leb 1 s.t_e && leb s.t_e 10000 && leb 1 s.t_wait
    && leb p.least_t3 (tenths_of s.t3) && wait_allowed p s

-- the same for TP 2.0: receive ID 0..0x7FF, unit 0x00..0xEF; T3 is free
abbrev pub allowed : Settings → Bool
allowed s = allowed_by tp20 s

-- the settings that are made use of: "no test (those settings lie unused)" (02, 10), and an interval of 0 is no tests
abbrev pub used : Profile → Settings → Settings
used p s =
    record {
      receive = s.receive;
      unit = s.unit;
      block = s.block;
      t1 = s.t1;
      t3 = s.t3;
      t_e = s.t_e;
      mntc = s.mntc;
      mntb = s.mntb;
      t_wait = s.t_wait;
      t_ct = if p.tests then s.t_ct else 0;
      mnct = s.mnct;
    }
