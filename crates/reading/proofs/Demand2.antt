-- Demand 2, from the views of the readers, the bytes of the writers, and the two theorems on whole messages.
use Prim.Native.Nat.{ℕ, ◌≤◌, ◌<◌}
use native.Mathlib.Omega.{arith}
use mathlib.Core.Bool.{Bool, true, false}
use mathlib.Core.List.{List, [], ◌∷◌}
use mathlib.Core.Path.{◌≡◌, refl, sym, ap, subst, ◌∙◌}
use lib.ListN.{length, take, set}
use Rattle.telegram.specs.Outgoing.{bytes_of}
use Rattle.telegram.specs.Kinds.{sorted, ack_of, test_of, disconnect_of, setup_of, accept_of}
use Rattle.telegram.specs.Cutting.{cutting}
use Rattle.telegram.specs.Forms.{Taken, formed, formless, first_byte, ack, test, break, disconnect, accept, Filled, bare, filled, Form, as-data, as-fillable, as-setup, Formed, malformed}
use Rattle.telegram.specs.declared.kinds.Parameters.{Parameters}
use Rattle.telegram.specs.declared.kinds.Sorted.{Sorted}
use Rattle.telegram.specs.declared.kinds.Telegram.{Telegram}
use Rattle.telegram.specs.declared.kinds.Telegram.TheVariants.{Data, Ack, Test, Break, Disconnect, Setup, Accept, Malformed}
use Rattle.telegram.proofs.RoundTrip.{ack-sorted, test-sorted, disconnect-sorted, setup-sorted, accept-sorted}
use Rattle.telegram.proofs.Forms.{own-sorted, filled-sorted, sorts}
use Rattle.telegram.proofs.Cut.{published, cutting-length}
use Rattle.telegram.proofs.Rules.{declares-only, writes, cut}
use Rattle.opening.specs.Opening.{request_of, reply_of, Open, NoRequest, Positive, Refused, NoReply}
use Rattle.opening.specs.Forms.{RequestForm, as-open, ReplyForm, as-positive, as-refused}
use Rattle.opening.proofs.RoundTrip.{request-read, positive-read, refused-read}
use Rattle.opening.proofs.Rules.{refusal-exactly, request-reads, reply-reads, writes as opening-writes}
use Rattle.sender.specs.declared.Terms.{Terms}
use Rattle.sender.specs.declared.Sender.{Sender}
use Rattle.sender.specs.Sending.{fresh as fresh_sender}
use Rattle.sender.specs.Writing.{Written, written}
use Rattle.sender.proofs.Writing.{writes as sender-writes}
use Rattle.receiver.specs.declared.Receipt.{Receipt}
use Rattle.receiver.specs.Receiving.{took, fresh as fresh_receiver, shown, Shown}
use Rattle.reading.specs.Reading.{Reading, Read, reads}
use Rattle.reading.specs.Demand2.{Sendable, Ready, Sent, Free, flagged, Demand2Holds}
use Rattle.reading.proofs.Whole.{reads-cutting, reads-flagged, read-shown, read_taken}

-- what a reader takes

ack-only : {s : List ℕ} {ready : Bool} {n : ℕ} {padded : Bool} → Form s (Ack ready n) padded → (n < 16) × Filled s (bytes_of (ack_of ready n)) padded
ack-only (as-fillable own k b (ack true n h) f) = (h, rw (writes.ready n h) f)
ack-only (as-fillable own k b (ack false n h) f) = (h, rw (writes.not_ready n h) f)

test-only : {s : List ℕ} {padded : Bool} → Form s Test padded → Filled s (bytes_of test_of) padded
test-only (as-fillable own k b test f) = f

break-only : {s : List ℕ} {padded : Bool} → Form s Break padded → Filled s (0xA4 ∷ []) padded
break-only (as-fillable own k b break f) = f

disconnect-only : {s : List ℕ} {padded : Bool} → Form s Disconnect padded → Filled s (bytes_of disconnect_of) padded
disconnect-only (as-fillable own k b disconnect f) = f

setup-only : {s : List ℕ} {p : Parameters} {padded : Bool} → Form s (Setup p) padded → (padded ≡ false) × (set (set s 3 0xFF) 5 0xFF ≡ bytes_of (setup_of p))
setup-only (as-setup p t2 t4 e) = (refl, rw e)
setup-only (as-fillable own k b c f) = elim c [ ]

accept-only : {s : List ℕ} {p : Parameters} {padded : Bool} → Form s (Accept p) padded → Filled (set (set s 3 0xFF) 5 0xFF) (bytes_of (accept_of p)) padded
accept-only (as-fillable own k b (accept p t2 t4) (bare e)) = bare (rw e)
accept-only (as-fillable own k b (accept p t2 t4) (filled content e l)) = rw e (filled content refl (rw e at l))

data-only : {s : List ℕ} {asks last : Bool} {n : ℕ} {padded : Bool} → Form s (Data asks last n) padded → (padded ≡ false) × (n < 16) × (take 1 s ≡ first_byte asks last n ∷ [])
data-only (as-data asks last n p h some few e) = (refl, h, rw e)
data-only (as-fillable own k b c f) = elim c [ ]

-- a kind, and not what is badly formed
abbrev IsKind : Telegram → Type 0
IsKind (Data asks last n) = Unit
IsKind (Ack ready n) = Unit
IsKind Test = Unit
IsKind Break = Unit
IsKind Disconnect = Unit
IsKind (Setup p) = Unit
IsKind (Accept p) = Unit
IsKind Malformed = ⊥

-- a telegram that is sorted into a kind has its form
form_of : {t : Telegram} {padded : Bool} → IsKind t → (s : List ℕ) → sorted s ≡ record { kind = t; padded = padded } → Form s t padded
form_of {t} {padded} some s e = go ((sorts s _).0 e) refl
  where
    go : {x : Sorted} → Taken (Formed s) malformed x → x ≡ record { kind = t; padded = padded } → Form s t padded
    go (formed f) same = subst (Formed s) same f
    go (formless none) same = absurd (subst (λ (x : Sorted). IsKind x.kind) (sym same) some)

request-only : {s : List ℕ} {unit receive : ℕ} → Taken (RequestForm s) NoRequest (Open unit receive) → (receive < 0x800) × (s ≡ bytes_of (request_of unit receive))
request-only (formed (as-open u r h e)) = (h, e ∙ sym (opening-writes.request u r h))

positive-only : {s : List ℕ} {receive transmit : ℕ} → Taken (ReplyForm receive s) NoReply (Positive transmit)
    → (transmit < 0x800) × (s ≡ bytes_of (reply_of 0xD0 receive transmit))
positive-only {receive = r} (formed (as-positive t h k e)) = (k, e ∙ sym (opening-writes.reply 0xD0 r t h k))

refused-only : {s : List ℕ} {receive opcode : ℕ} (transmit : ℕ) → Taken (ReplyForm receive s) NoReply (Refused opcode)
    → (length s ≡ length (bytes_of (reply_of opcode receive transmit))) × (take 2 s ≡ take 2 (bytes_of (reply_of opcode receive transmit)))
refused-only t (formed (as-refused o a b c d f h k e)) = (rw e, rw e)

-- whole messages

module _ (limit : ℕ) (twelve : limit ≤ 4095) where
  sent : (t : Terms) (s : Sender) (m : List ℕ) → Sendable limit m → Ready t s → Sent t s m (written limit t s m)
  sent t s m f r =
      let e = sender-writes limit t s m (record { free = r.length; some = f.some; within = f.within }) r.hold r.gap r.number r.some (omega arith) in
      record { frames = ap (λ (w : Written). w.frames) e; note = ap (λ (w : Written). w.note) e; sender = rw (e, cutting-length m t.block s.oldest) }

  read_back : (m : List ℕ) (block number : ℕ) (h : Reading) → Sendable limit m → Free m number h → Read m 0 number h.buffer (reads limit h (cutting m block number))
  read_back m block number h f r = reads-cutting limit m number h.buffer f.some f.within twelve r.roomy block r.small h r.idle refl

  flagged_back : (m : List ℕ) (flags block number : ℕ) (h : Reading) → flags < 16 → Sendable limit m → Free m number h
      → Read m flags number h.buffer (reads limit h (flagged flags (cutting m block number)))
  flagged_back m flags block number h four f r =
      reads-flagged limit m flags number h.buffer f.some f.within twelve four r.roomy block r.small h r.idle refl

  arrives : (t : Terms) (s : Sender) (m : List ℕ) (h : Reading) → Sendable limit m → Ready t s → Free m s.oldest h
      → (let r = reads limit h (written limit t s m).frames in
      (shown r.receiver r.buffer ≡ m) × ((took r.receiver (length r.buffer)).message ≡ Shown (record { length = length m; flags = 0 })))
  arrives t s m h f r a =
      let e = read_back m t.block s.oldest h f a in
      rw (sent t s m f r).frames (read-shown m 0 s.oldest h.buffer _ e, read_taken m 0 s.oldest h.buffer _ f.some e)

pub demand2 : Demand2Holds
demand2 limit twelve =
    record {
      sorts = sorts;
      requests = request-reads;
      replies = λ r s b. reply-reads s b r;
      declares = declares-only;
      writes = writes;
      opens = opening-writes;
      two_forms = λ own content t c l. (own-sorted c, filled-sorted c content l);
      ack_back = ack-sorted;
      test_back = test-sorted;
      disconnect_back = disconnect-sorted;
      setup_back = setup-sorted;
      accept_back = accept-sorted;
      request_back = request-read;
      positive_back = positive-read;
      refused_back = λ o r t own h k. refused-read o r t own ((refusal-exactly o).1 (h, k));
      ack_only = λ s ready n p e. ack-only (form_of tt s e);
      test_only = λ s p e. test-only (form_of tt s e);
      break_only = λ s p e. break-only (form_of tt s e);
      disconnect_only = λ s p e. disconnect-only (form_of tt s e);
      setup_only = λ s f p e. setup-only (form_of tt s e);
      accept_only = λ s f p e. accept-only (form_of tt s e);
      data_only = λ s asks last n p e. data-only (form_of tt s e);
      request_only = λ s b u r e. request-only ((request-reads s b (Open u r)).0 e);
      positive_only = λ s b r t e. positive-only ((reply-reads s b r (Positive t)).0 e);
      refused_only = λ s b r o t e. refused-only t ((reply-reads s b r (Refused o)).0 e);
      published = λ m block first f. published limit twelve m block first f.some f.within;
      cut = λ m block first f. let h = f.within in cut m block first (omega arith);
      sent = sent limit twelve;
      read_back = read_back limit twelve;
      flagged_back = flagged_back limit twelve;
      arrives = arrives limit twelve;
    }

-- fresh ends meet what it assumes: every message of 1 to 1,024 bytes arrives, with flags 0, at every block size and into every buffer of 1,024
pub fresh-arrives : (t : Terms) (m b : List ℕ) (n : Receipt) → 1 ≤ t.block → t.block ≤ 15 → Sendable 1024 m → 1024 ≤ length b
    → let h = reads 1024 (record { receiver = fresh_receiver; buffer = b; note = n }) (written 1024 t fresh_sender m).frames in
    (shown h.receiver h.buffer ≡ m) × ((took h.receiver (length h.buffer)).message ≡ Shown (record { length = length m; flags = 0 }))
fresh-arrives t m b n low high f roomy =
    let within = f.within in
    (demand2 1024 (omega arith)).arrives t fresh_sender m (record { receiver = fresh_receiver; buffer = b; note = n }) f
    (record { length = refl; hold = refl; gap = refl; number = omega arith; some = low; few = high })
    (record { idle = record { expected = refl; discarding = refl; begun = refl; complete = refl }; small = omega arith; roomy = omega arith })
