-- Two fresh ends: tied to their channels, with the invariant of the direction from the near to the far one.
use Prim.Native.Nat.{ℕ, ◌+◌, ◌%◌}
use mathlib.Core.Bool.{true, not, false≢true}
use mathlib.Core.List.{List, [], map}
use mathlib.Core.Logic.{inl}
use mathlib.Core.Path.{refl, sym, ap, subst, subst₂, ◌∙◌}
use lib.ListN.{length, take}
use Rattle.sender.specs.declared.Sender.{Sender}
use Rattle.receiver.specs.declared.Receiver.{Receiver}
use Rattle.delivery.specs.End.{End}
use Rattle.delivery.specs.Line.{Line}
use Rattle.delivery.specs.System.{Party, Flying, ShownMessage, plain, History, System, turned}
use Rattle.delivery.specs.Claim.{channel_of, Fresh}
use Rattle.delivery.specs.Laws.{TwoEnds}
use Rattle.delivery.proofs.Invariant.{current, Forward, Backward, Invariant}
use Rattle.delivery.proofs.Directions.{data_of, acks_of, Fits}
use Rattle.delivery.proofs.Runs.{SystemOf, forth_of, Seen, Good}

-- the channel of an end that is open
abbrev pub line_of : {E : End} → Party E → Line
line_of p = record { channel = channel_of p; live = true }

-- seen from the other side they are fresh too
pub turned-fresh : {N F : End} (s : System N F) → Fresh s → Fresh (turned s)
turned-fresh s f =
    record {
      near = f.far;
      far = f.near;
      to-far = f.to-near;
      to-near = f.to-far;
      agreed = sym f.agreed;
      least = rw f.agreed f.least;
      most = rw f.agreed f.most;
      forward = f.backward;
      backward = f.forward;
      forth = f.back;
      back = f.forth;
    }

pub fresh_keeps : (limit : ℕ) {N F : End} (s : System N F) → Fresh s → Invariant limit (length s.far.buffer) 0 0 0 [] (forth_of (line_of s.near) (line_of s.far) s)
fresh_keeps limit s f =
    let sent = f.near.sender in
    let got = f.far.receiver in
    let none = f.forth in
    let acked = ap (λ (x : Sender). x.acked) sent in
    let done = ap (λ (h : History). h.done) none in
    let out = ap (λ (h : History). h.handed_out) none in
    record {
      fair = record { least = f.least; most = f.most; t1 = f.near.t1 };
      room' = refl;
      sending =
          inl
          (record {
            counted = ap (λ (h : History). length h.accepted) none ∙ sym done;
            length' = ap (λ (x : Sender). x.length) sent;
            acked = acked;
            high = ap (λ (x : Sender). x.high) sent;
            next = ap (λ (x : Sender). x.next) sent;
            wait = ap (λ (x : Sender). x.wait) sent;
            none = refl;
          });
      oldest = ap (λ (x : Sender). x.oldest) sent ∙ sym (ap (λ (n : ℕ). (0 + n) % 16) acked);
      expected = ap (λ (x : Receiver). x.at.expected) got;
      forward =
          subst
          (λ (l : List Flying). Forward 0 (0 + (channel_of s.near).sender.high) (current s.forth) (channel_of s.near).parameters.terms.block (0 + 0) [] (data_of l))
          (sym f.forward) tt;
      backward =
          subst (λ (l : List Flying). Backward (0 + (channel_of s.near).sender.acked) (0 + 0) (channel_of s.far).receiver.ack (acks_of l)) (sym f.backward)
          (λ e. absurd (false≢true (sym (ap (λ (x : Receiver). x.ack.due) got) ∙ e)));
      content =
          inl
          (record {
            none = refl;
            between = record { begun = ap (λ (x : Receiver). x.at.begun.length) got; discarding = ap (λ (x : Receiver). x.at.discarding) got };
            complete = inl (record { none = ap (λ (x : Receiver). x.complete.length) got; all = ap length out ∙ sym done });
          });
      in_order = out ∙ sym (ap (λ (l : List ShownMessage). map plain (take (length l) s.forth.accepted)) out);
      eight = sym (ap (λ (h : History). not h.eight) none);
    }

module _ (two : TwoEnds) (s : SystemOf two) (f : Fresh s) where
  pub fresh-seen : Seen two (two.near.receives s.near.state) (two.near.transmits s.near.state) (line_of s.near) (line_of s.far) s
  fresh-seen =
      record {
        near' = two.near_laws.begins s.near f.near;
        far' =
            subst₂ (λ (i o : ℕ). two.FarTied i o s.far.state (line_of s.far)) (sym f.to-far) f.to-near
            (two.far_laws.begins s.far f.far);
        forward = subst (Fits two.carried (two.near.transmits s.near.state)) (sym f.forward) tt;
        backward = subst (Fits two.carried (two.near.receives s.near.state)) (sym f.backward) tt;
      }

  pub fresh-good : Good two (two.near.receives s.near.state) (two.near.transmits s.near.state) (length s.far.buffer) (line_of s.near) (line_of s.far) s
  fresh-good =
      record {
        seen = fresh-seen;
        kept = (0, 0, 0, [], fresh_keeps two.limit s f);
        counts =
            ap (λ (h : History). h.complete) f.forth ∙ sym (rw (ap (λ (h : History). h.handed_out) f.forth, f.far.receiver));
      }
