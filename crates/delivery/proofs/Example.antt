-- One list of calls that meets all that demand 3 assumes, in either half: two messages, the first of eighteen frames, in blocks of four, one repeat allowed;
-- a data frame, an Ack and frames that had arrived and stayed are lost on the way. `example` of NotEmpty.antt proves it.
use Prim.Native.Nat.{ℕ, zero, suc, ◌+◌, ◌≤◌}
use mathlib.Core.Bool.{true}
use mathlib.Core.Path.{refl}
use mathlib.Core.List.{List, [], ◌∷◌, ◌++◌}
use lib.ListN.{replicate}
use Rattle.telegram.specs.Cutting.{stream_of, frames_of, header_of, frame_at}
use Rattle.telegram.specs.Kinds.{bad_block, kind_of}
use Rattle.sender.specs.Sending.{offered, distance, on_ack, heard, passed, frame_due, first_number, handed}
use Rattle.receiver.specs.Receiving.{settled, numbered, filled, on_first, on_later, on_data, received, copied, buffered, took}
use Rattle.channel.specs.declared.Parameters.{Parameters}
use Rattle.channel.specs.Opened.{fresh, wait_ends, elapsed, test_due, hand_accept, hand_test, hand_ack, hand_data, due as due_of, sent}
use Rattle.arrival.specs.Arrived.{answered, on_data as data_on, on_ack as ack_on, on_accept, arrived}
use Rattle.delivery.specs.Line.{channel_end}
use Rattle.delivery.specs.System.{System, Party, Call, History, sending, taking, timing, asking, arriving, missing}
use Rattle.delivery.specs.System.Side.{near, far}
use Rattle.delivery.specs.System.Fate.{goes, stays, lost}
use Rattle.delivery.specs.System.Act.{send, take, time, due, arrive}
use Rattle.delivery.specs.System.Call.{at}
use Rattle.delivery.specs.Claim.{FreshEnd, Fresh, no_history}

-- ---- computing

-- a proof that computes with a list of calls opens this, and with it every definition that the calls go through
unfoldable pub computed : Unit {0}
unfolding sending taking timing asking arriving missing stream_of frames_of header_of frame_at bad_block kind_of offered distance on_ack heard passed frame_due first_number handed settled numbered filled on_first on_later on_data received copied buffered took answered data_on ack_on on_accept arrived wait_ends elapsed test_due hand_accept hand_test hand_ack hand_data due_of sent
computed = tt

-- ---- the ends

-- blocks of four frames, T1 100 ms, T3 5 ms, one repeat, and the default T_WAIT and test interval
abbrev pub parameters : Parameters
parameters =
    record {
      terms = record { block = 4; t1 = 1000; t3 = 50; repeats = 1; t_wait = 1000 };
      interval = 10000;
      allowed = 5;
      own = record { block = 4; t1 = 0x8A; t3 = 0x32 };
    }

-- a fresh end with a buffer for the longest message
abbrev pub opened : Parameters → Party (channel_end 1024)
opened p = record { state = record { channel = fresh p; live = true }; buffer = replicate 1024 0 }

-- nothing has happened
abbrev pub none_yet : History
none_yet = no_history (record { message = 0; block = 0; turn = 0 })

-- two of them, and nothing on its way
abbrev pub fresh_ends : Parameters → System (channel_end 1024) (channel_end 1024)
fresh_ends p = record { near = opened p; far = opened p; forward = []; backward = []; forth = none_yet; back = none_yet }

-- they are fresh, with settings that 01 allows
pub ends_fresh : (p : Parameters) → 1 ≤ p.terms.t1 → 1 ≤ p.terms.t_wait → 1 ≤ p.terms.block → p.terms.block ≤ 15 → Fresh (fresh_ends p)
ends_fresh p t1 t-wait least most =
    let one : FreshEnd (opened p) =
    record { open' = refl; sender = refl; receiver = refl; tests = refl; accept = refl; t1 = t1; t_wait = t-wait } in
    record {
      near = one;
      far = one;
      to-far = refl;
      to-near = refl;
      agreed = refl;
      least = least;
      most = most;
      forward = refl;
      backward = refl;
      forth = refl;
      back = refl;
    }

-- two with the settings above
abbrev pub start : System (channel_end 1024) (channel_end 1024)
start = fresh_ends parameters

-- ---- pieces of the list

-- the next frame is handed over, and T3 passes
abbrev pub hands_over : List Call
hands_over = at near due ∷ at near (time 50) ∷ []

-- the next frame is handed over and arrives
abbrev pub passes : List Call
passes = hands_over ++ at far (arrive goes) ∷ []

-- the next frame is handed over, arrives, and stays in the link
abbrev pub remains : List Call
remains = hands_over ++ at far (arrive stays) ∷ []

-- the next frame is handed over and lost
abbrev pub drops : List Call
drops = hands_over ++ at far (arrive lost) ∷ []

-- the Ack that is due is handed over and arrives
abbrev pub acknowledges : List Call
acknowledges = at far due ∷ at near (arrive goes) ∷ []

-- T1 passes, and the wait for an Ack runs out
abbrev pub runs_out : List Call
runs_out = at near (time 1000) ∷ []

-- ---- the list

-- nothing is lost, but the Ack stays, and arrives again among the frames of the next block, where it changes nothing
abbrev pub block0 : List Call
block0 = passes ++ passes ++ passes ++ passes ++ at far due ∷ at near (arrive stays) ∷ []

-- the second frame is lost, so that the fourth is out of place; it stays. Its Ack has the block sent on from the second,
-- and what stayed is lost while that is sent: a loss of the first try, which had lost a frame before
abbrev pub block1 : List Call
block1 =
    passes ++ at near (arrive goes) ∷ drops ++ passes ++ remains ++ acknowledges
    ++ hands_over ++ at far (arrive lost) ∷ at far (arrive goes) ∷ passes ++ passes ++ acknowledges

-- the Ack is lost, the wait runs out, and the whole block is sent again: each frame is out of place, and the last asks for the Ack once more
abbrev pub block2 : List Call
block2 =
    passes ++ passes ++ passes ++ passes ++ at far due ∷ at near (arrive lost) ∷ runs_out
    ++ passes ++ passes ++ passes ++ passes ++ acknowledges

-- the fourth frame arrives and stays
abbrev pub block3 : List Call
block3 = passes ++ passes ++ passes ++ remains ++ acknowledges

-- what stayed of the block before is lost while the next block is sent: a loss of that block's only try. This block's own first try loses its last frame
abbrev pub block4 : List Call
block4 = hands_over ++ at far (arrive lost) ∷ at far (arrive goes) ∷ drops ++ runs_out ++ passes ++ passes ++ acknowledges

-- n bytes that count on from one
abbrev pub rising : (n first : ℕ) → List ℕ
rising zero first = []
rising (suc n) first = first ∷ rising n (first + 1)

-- a message of 120 bytes, which make eighteen frames: four blocks of four, and one of two
abbrev pub long_message : List ℕ
long_message = rising 120 0x61

-- a message of five bytes, which make one frame
abbrev pub short_message : List ℕ
short_message = 0x62 ∷ 0xF1 ∷ 0x90 ∷ 0x31 ∷ 0x32 ∷ []

-- the long message, handed out, and the short one
abbrev pub calls : List Call
calls =
    at near (send long_message) ∷ block0 ++ block1 ++ block2 ++ block3 ++ block4
    ++ at far take ∷ at near (send short_message) ∷ passes ++ acknowledges ++ at far take ∷ []
