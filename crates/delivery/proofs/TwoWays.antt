-- One list of calls in which both ends send and tests run, as 02, 14 has it: a test is answered, in each direction a frame is lost and a message done,
-- and another message is given up by the near end's tests, with a part of it at the far end.
use Prim.Native.Nat.{ℕ, ◌+◌}
use native.Mathlib.Omega.{arith}
use mathlib.Core.Bool.{Bool, true, false}
use mathlib.Core.Path.{◌≡◌, refl}
use mathlib.Core.List.{List, [], ◌∷◌, ◌++◌}
use lib.ListN.{length}
use Rattle.telegram.specs.Kinds.{sorted}
use Rattle.telegram.specs.declared.kinds.Telegram.{Telegram}
use Rattle.telegram.specs.declared.kinds.Telegram.TheVariants.{Test, Accept}
use Rattle.channel.specs.declared.Parameters.{Parameters}
use Rattle.delivery.specs.Line.{channel_end}
use Rattle.delivery.specs.System.{System, Party, Flying, plain, Call, turned, run}
use Rattle.delivery.specs.System.Side.{near, far}
use Rattle.delivery.specs.System.Fate.{goes, lost}
use Rattle.delivery.specs.System.Act.{send, take, time, due, arrive}
use Rattle.delivery.specs.System.Call.{at}
use Rattle.delivery.specs.Claim.{channel_of, Fresh, Roomy, frames_for}
use Rattle.delivery.proofs.Example.{computed, parameters, fresh_ends, ends_fresh, rising, passes, hands_over, acknowledges, runs_out}

-- ---- the ends

-- the terms of Example.antt, a test after 200 ms, and one that may stay unanswered
abbrev pub testing : Parameters
testing = record { terms = parameters.terms; interval = 2000; allowed = 1; own = parameters.own }

-- both ends, with nothing on its way
abbrev pub start : System (channel_end 1024) (channel_end 1024)
start = fresh_ends testing

-- ---- the messages

-- ten bytes, which make two frames
abbrev pub request : List ℕ
request = rising 10 0x21

-- five bytes, which make one frame
abbrev pub reply : List ℕ
reply = rising 5 0x61

-- thirty bytes, which make five frames: a block of four, and one of one
abbrev pub unfinished : List ℕ
unfinished = rising 30 0x21

-- ---- the list

-- both ends accept a message
abbrev pub both_send : List Call
both_send = at near (send request) ∷ at far (send reply) ∷ []

-- the near end's interval passes, and its test goes before the data
abbrev pub asks : List Call
asks = at near (time 2000) ∷ at near due ∷ []

-- the test arrives, and the A1 goes before the far end's data
abbrev pub accepts : List Call
accepts = at far (arrive goes) ∷ at far due ∷ []

-- the A1 arrives
abbrev pub settles : List Call
settles = at near (arrive goes) ∷ []

-- the request's first frame and the reply's only one cross; the reply is taken
abbrev pub cross : List Call
cross = hands_over ++ at far due ∷ at near (arrive goes) ∷ at near take ∷ at far (arrive goes) ∷ []

-- the Ack of the reply and the request's second frame are handed over, and both are lost
abbrev pub both_lost : List Call
both_lost = at near due ∷ at near due ∷ at far (arrive lost) ∷ at far (arrive lost) ∷ []

-- the far end's wait runs out, it repeats the reply, and this time the Ack arrives: the reply is done
abbrev pub reply_again : List Call
reply_again = at far (time 1000) ∷ at far due ∷ at near (arrive goes) ∷ at near due ∷ at far (arrive goes) ∷ []

-- the near end's wait runs out, it repeats both frames, and the request is done and taken
abbrev pub request_again : List Call
request_again = runs_out ++ passes ++ passes ++ acknowledges ++ at far take ∷ []

-- the first block of the near end's next message passes and is acknowledged
abbrev pub begins : List Call
begins = at near (send unfinished) ∷ passes ++ passes ++ passes ++ passes ++ acknowledges

-- the interval passes, and the next test is lost; its wait runs out, and of another one the A1 is on its way
abbrev pub unanswered : List Call
unanswered = asks ++ at far (arrive lost) ∷ runs_out ++ at near due ∷ accepts

-- that test's wait runs out too. The A1 comes too late, and a take at the far end shows nothing
abbrev pub gives_up : List Call
gives_up = runs_out ++ settles ++ at far take ∷ []

-- the list up to where the first test is on its way
abbrev pub to_test : List Call
to_test = both_send ++ asks

-- up to where its A1 is on its way
abbrev pub to_accept : List Call
to_accept = to_test ++ accepts

-- up to where that has arrived
abbrev pub to_settled : List Call
to_settled = to_accept ++ settles

-- up to where the last test's wait is about to run out
abbrev pub to_last_wait : List Call
to_last_wait = to_settled ++ cross ++ both_lost ++ reply_again ++ request_again ++ begins ++ unanswered

abbrev pub calls : List Call
calls = to_last_wait ++ gives_up

-- ---- what it shows

-- the kinds of the frames in a link
abbrev pub kinds : List Flying → List Telegram
kinds [] = []
kinds (f ∷ rest) = (sorted f.bytes).kind ∷ kinds rest

-- an end is open
abbrev pub is_open : Party (channel_end 1024) → Bool
is_open p = (channel_end 1024).open' p.state

pub record BothWaysRun : Type 0 where
  -- what is assumed
  pub fresh : Fresh start
  pub roomy_forth : Roomy start (run start calls)
  pub roomy_back : Roomy (turned start) (turned (run start calls))
  -- a test goes out, and nothing else is on its way
  pub test_goes : kinds (run start to_test).forward ≡ Test ∷ []
  pub test_out : (channel_of (run start to_test).near).tests.out ≡ true
  -- an A1 goes back, and until it arrives the test is out
  pub accept_goes : kinds (run start to_accept).backward ≡ Accept testing.own ∷ []
  pub still_out : (channel_of (run start to_accept).near).tests.out ≡ true
  -- it has arrived
  pub none_out : (channel_of (run start to_settled).near).tests.out ≡ false
  -- before the 8: a message is in sending and no wait for an Ack runs, but a test's, with as many unanswered as are allowed
  pub open_before : is_open (run start to_last_wait).near ≡ true
  pub in_sending : (channel_of (run start to_last_wait).near).sender.length ≡ length unfinished
  pub no_wait : (channel_of (run start to_last_wait).near).sender.wait ≡ 0
  pub test_wait : (channel_of (run start to_last_wait).near).tests.wait ≡ 1000
  pub all_unanswered : (channel_of (run start to_last_wait).near).tests.unanswered ≡ testing.allowed
  -- the far end holds 26 bytes of that message: four frames of seven, less two length bytes
  pub held : (channel_of (run start to_last_wait).far).receiver.at.fill ≡ 26
  -- from the near end to the far one: the request is done, after four frames, where its cutting has two, and the next message is given up
  pub forth_accepted : (run start calls).forth.accepted ≡ request ∷ unfinished ∷ []
  pub forth_complete : (run start calls).forth.complete ≡ plain request ∷ []
  pub forth_handed_out : (run start calls).forth.handed_out ≡ plain request ∷ []
  pub forth_done : (run start calls).forth.done ≡ 1
  pub forth_eight : (run start calls).forth.eight ≡ true
  pub one_not_done : length (run start calls).forth.accepted ≡ (run start calls).forth.done + 1
  pub forth_losses : (run start calls).forth.losses ≡ record { message = 0; block = 0; turn = 0 } ∷ []
  pub forth_frames : frames_for 0 (run start calls).forth.frames ≡ 4
  pub near_closed : is_open (run start calls).near ≡ false
  -- from the far end to the near one: the reply is done, after two frames, where its cutting has one
  pub back_accepted : (run start calls).back.accepted ≡ reply ∷ []
  pub back_complete : (run start calls).back.complete ≡ plain reply ∷ []
  pub back_handed_out : (run start calls).back.handed_out ≡ plain reply ∷ []
  pub back_done : (run start calls).back.done ≡ 1
  pub back_eight : (run start calls).back.eight ≡ false
  pub back_losses : (run start calls).back.losses ≡ record { message = 0; block = 0; turn = 0 } ∷ []
  pub back_frames : frames_for 0 (run start calls).back.frames ≡ 2
  pub far_open : is_open (run start calls).far ≡ true

-- two accepted, one done
one_of_two : (ms : List (List ℕ)) (n : ℕ) → ms ≡ request ∷ unfinished ∷ [] → n ≡ 1 → length ms ≡ n + 1
one_of_two ms n accepted done = rw (accepted, done)

-- the list meets what 02, 14 assumes, and both directions carry messages
pub both-ways-run : BothWaysRun
unfolding computed
both-ways-run =
    record {
      fresh = ends_fresh testing (omega arith) (omega arith) (omega arith) (omega arith);
      roomy_forth = (omega arith, (omega arith, tt));
      roomy_back = (omega arith, tt);
      test_goes = refl;
      test_out = refl;
      accept_goes = refl;
      still_out = refl;
      none_out = refl;
      open_before = refl;
      in_sending = refl;
      no_wait = refl;
      test_wait = refl;
      all_unanswered = refl;
      held = refl;
      forth_accepted = refl;
      forth_complete = refl;
      forth_handed_out = refl;
      forth_done = refl;
      forth_eight = refl;
      one_not_done = one_of_two (run start calls).forth.accepted (run start calls).forth.done refl refl;
      forth_losses = refl;
      forth_frames = refl;
      near_closed = refl;
      back_accepted = refl;
      back_complete = refl;
      back_handed_out = refl;
      back_done = refl;
      back_eight = refl;
      back_losses = refl;
      back_frames = refl;
      far_open = refl;
    }
