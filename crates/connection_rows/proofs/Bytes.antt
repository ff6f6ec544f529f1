-- How frames are sorted by the conditions of specs/Rows.antt: the replies to a C0, which shut one another out, and the telegrams that a profile has. And the ID listened on.
use Rattle.std.specs.Prelude.{if◌then◌else◌}
use Prim.Native.Nat.{ℕ}
use mathlib.Core.Bool.{Bool, true, false, ◌&&◌, ◌||◌, not, and-true}
use mathlib.Core.List.{List}
use mathlib.Core.Path.{◌≡◌, refl}
use lib.ListN.{length, get_or}
use lib.Dec.{leb, eqb}
use borrow.Author.Tests.{eqb-true}
use Rattle.laws.proofs.Branches.{and-off'}
use Rattle.laws.proofs.Cases.{by, either, and_first, and_second}
use Rattle.telegram.specs.Kinds.{sorted}
use Rattle.telegram.specs.Forms.{malformed}
use Rattle.telegram.specs.declared.kinds.Sorted.{Sorted}
use Rattle.opening.specs.Opening.{id_of, reply_read, Reply, Positive, Refused, NoReply}
use Rattle.opening.specs.Short.{short_reply_read}
use Rattle.profile.specs.Profile.{within, test_or_break, sorted_by}
use Rattle.profile.specs.Opening.{named, reply_for}
use Rattle.profile.specs.declared.Profile.{Profile}
use Rattle.connection.specs.declared.Connection.{Connection}
use Rattle.connection.specs.Record.{listens_on, hears}
use Rattle.open_rows.specs.Rows.{is_data, is_ack, is_test, is_break, is_setup, is_accept, is_padded}
use Rattle.open_rows.proofs.Words.{refusal-byte, only-byte}
use Rattle.open_rows.proofs.Same.{outside-same}
use Rattle.open_rows.proofs.Bytes.{Kind, by_kind, ack-kind}
use Rattle.connection_rows.specs.Records.{is_closed, is_requesting}
use Rattle.connection_rows.specs.Rows.{is_reply, is_refusal, rest_in_form, named_id, is_positive, other_id, is_missing}

-- ---- replies

module _ (s : List ℕ) where
  -- the conditions of specs/Rows.antt, by the form alone
  abbrev formed : (short : Bool) → Bool
  formed short = eqb (length s) (if short then 3 else 7) && eqb (get_or s 0 0) 0x00

  abbrev refuses : (short : Bool) → Bool
  refuses short = formed short && (leb (if short then 0xD8 else 0xD6) (get_or s 1 0) && leb (get_or s 1 0) 0xD8)

  abbrev names : (receive : ℕ) → (short : Bool) → Bool
  names receive short = formed short && eqb (get_or s 1 0) 0xD0 && (short || rest_in_form receive s)

  -- a reply is read by them
  read_same : (receive : ℕ) (short : Bool)
      → (if short then short_reply_read s else reply_read s receive)
      ≡ (if refuses short then Refused (get_or s 1 0)
      else if names receive short then Positive (if short then get_or s 2 0 else id_of (get_or s 4 0) (get_or s 5 0))
      else NoReply)
  unfolding short_reply_read reply_read rest_in_form
  read_same receive true = rw (only-byte (get_or s 1 0) 0xD8, and-true)
  read_same receive false = rw (refusal-byte (get_or s 1 0)) (either (formed false && eqb (get_or s 1 0) 0xD0) (λ e. rw e) (λ e. rw e))

  -- it has three or seven bytes, so it is no A0 or A1, and not padded
  no-channel : (short : Bool) → length s ≡ (if short then 3 else 7) → (is_setup s ≡ false) × (is_accept s ≡ false) × (is_padded s ≡ false)
  unfolding is_setup is_accept is_padded
  no-channel true l = (rw l, rw l, rw (l, and-off' (not (is_data s)) false refl))
  no-channel false l = (rw l, rw l, rw (l, and-off' (not (is_data s)) false refl))

module _ (p : Profile) (s : List ℕ) where
  reply-apart : is_reply p s ≡ true → (is_setup s ≡ false) × (is_accept s ≡ false) × (is_padded s ≡ false)
  unfolding is_reply
  reply-apart r = no-channel s p.short (eqb-true _ _ (search and_first))

  refusal-apart : is_refusal p s ≡ true → (is_setup s ≡ false) × (is_accept s ≡ false) × (is_padded s ≡ false)
  unfolding is_refusal
  refusal-apart r = reply-apart (search and_first)

  -- what holds of a reply, by what it says
  pub by-reply : (receive : ℕ) (P : Reply → Type 0)
      → (is_refusal p s ≡ true → is_setup s ≡ false → is_accept s ≡ false → is_padded s ≡ false → P (Refused (get_or s 1 0)))
      → (is_refusal p s ≡ false → is_positive p receive s ≡ true → is_setup s ≡ false → is_accept s ≡ false → is_padded s ≡ false → P (Positive (named_id p s)))
      → (is_refusal p s ≡ false → is_positive p receive s ≡ false → P NoReply)
      → P (reply_for p s receive)
  unfolding reply_for named is_reply is_refusal is_positive named_id
  by-reply receive P refused positive none =
      rw (read_same s receive p.short)
      (by (λ q. P (named p q)) (is_refusal p s) (λ r. let n = refusal-apart r in refused r n.0 n.1 n.2) λ r.
      by (λ q. P (named p q)) (names s receive p.short)
      (λ h. let n = reply-apart (search (and_first, and_second)) in
      by P (within p.transmits (named_id p s))
      (λ w. positive r (rw (h, outside-same p.transmits (named_id p s)) w) n.0 n.1 n.2)
      (λ w. none r (rw (h, outside-same p.transmits (named_id p s)) w)))
      (λ h. none r (rw h)))

  -- a refusal is not padded
  pub refusal-unpadded : is_refusal p s ≡ true → is_padded s ≡ false
  refusal-unpadded r = (refusal-apart r).2

  -- ---- telegrams

  -- tests and breaks
  tests_same : test_or_break (sorted s).kind ≡ (is_test s || is_break s)
  tests_same = by_kind s (λ t. test_or_break t ≡ (is_test s || is_break s)) one one one one one one one one
    where
      one : {d a t b x u q : Bool} → Kind s d a t b x u q → (t || b) ≡ (is_test s || is_break s)
      one k = rw (k.test, k.break)

  -- what holds of a telegram, as the profile has it or not
  pub by-profile : (P : Sorted → Type 0) → (is_missing p s ≡ true → P malformed) → (is_missing p s ≡ false → P (sorted s)) → P (sorted_by p s)
  unfolding sorted_by is_missing
  by-profile P none some = rw tests_same (by P (is_missing p s) none some)

  -- every profile has Acks
  pub ack-there : is_ack s ≡ true → is_missing p s ≡ false
  unfolding is_missing
  ack-there a = let k = ack-kind s a in rw (k.test, k.break)

-- ---- the ID listened on

-- another CAN ID, of a record that is not closed
pub other-same : (c : Connection) (id : ℕ) → is_closed c ≡ false → other_id c id ≡ not (hears c id)
unfolding other_id hears listens_on
other-same c id e = rw e (either (is_requesting c) (λ r. rw r) (λ r. rw r))
