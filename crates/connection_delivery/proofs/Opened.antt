-- Demand 3 and request 14 speak of something for two connection records: settings that their profiles allow open two fresh ones.
use Prim.Native.Nat.{ℕ, min, ◌≤◌, ◌<◌, ◌%◌, ◌/◌}
use native.Mathlib.Nat.{one-le-mul, one-le-pow}
use native.Mathlib.Omega.{arith}
use mathlib.Core.Bool.{Bool, true, false}
use mathlib.Core.List.{List, [], ◌∷◌}
use mathlib.Core.Logic.{◌≢◌}
use mathlib.Core.Path.{◌≡◌, refl, ap, ◌∙◌}
use lib.ListN.{length, replicate}
use borrow.Author.Tests.{eq-eqb, ne_eqb, le-ltb}
use Rattle.telegram.specs.Time.{tenths_of}
use Rattle.telegram.specs.Outgoing.{bytes_of}
use Rattle.telegram.specs.declared.payload.Payload.{Payload}
use Rattle.opening.specs.Short.{short_reply_of}
use Rattle.opening.specs.Opening.{Positive}
use Rattle.telegram.specs.Kinds.{bad_block, setup_of, accept_of}
use Rattle.telegram.specs.declared.kinds.Parameters.{Parameters as Fields}
use Rattle.telegram.proofs.RoundTrip.{accept-sorted}
use Rattle.profile.specs.Profile.{within, tp20, drive, comfort, high, low}
use Rattle.profile.specs.Forms.{Within, Row}
use Rattle.profile.specs.Opening.{reply_id, request_for, reply_for}
use Rattle.profile.specs.declared.Profile.{Profile}
use Rattle.profile.proofs.Rules.{sorted_by-other}
use Rattle.profile.proofs.Opening.{positive_back, drive-row, comfort-row, high-row, low-row, tp20-positive}
use Rattle.settings.specs.Settings.{defaults16, allowed_by, allowed}
use Rattle.settings.specs.declared.Settings.{Settings}
use Rattle.settings.specs.Agreed.{own_fields}
use Rattle.settings.proofs.Rules.{allowed-exactly}
use Rattle.channel.specs.declared.Answer.TheVariants.{Good}
use Rattle.open_end.specs.declared.answers.Answer.TheVariants.{Channel}
use Rattle.connection.specs.declared.Connection.{Connection}
use Rattle.connection.specs.Record.{listens_on, hears, closed_record, with_attempt, requesting_as, agreeing, opened}
use Rattle.connection.specs.Calls.{opening_as, on_reply, on_accept, on_agreeing, arrived, request_due, due_of}
use Rattle.open_end.specs.Answers.{gives, marked, hand_over}
use Rattle.delivery.specs.System.{Try}
use Rattle.delivery.specs.Claim.{Fresh}
use Rattle.connection_delivery.specs.Ends.{goes_by}
use Rattle.connection_delivery.specs.Opening.{positive_of, exchange, opened_pair, mirrored, RowMeets, OpeningLeadsToFresh}

-- what the theorem needs of allowed settings
pub record Allowed (s : Settings) : Type 0 where
  pub least : 1 ≤ s.block
  pub most : s.block ≤ 15
  pub t1 : 1 ≤ tenths_of s.t1
  pub t_e : 1 ≤ s.t_e
  pub t_wait : 1 ≤ s.t_wait

-- a time code whose scale is not 0 is at least one tenth
tenths-some : (code : ℕ) → code % 64 ≢ 0 → 1 ≤ tenths_of code
unfolding tenths_of
tenths-some code e = one-le-mul (omega (arith, e)) (one-le-pow (code / 64) 10 (omega arith))

pub allowed-parts : (p : Profile) (s : Settings) → allowed_by p s ≡ true → Allowed s
allowed-parts p s e =
    let r = (allowed-exactly p s).0 e in
    record { least = r.block.0; most = r.block.1; t1 = tenths-some s.t1 r.t1; t_e = r.t_e.0; t_wait = r.t_wait }

-- in TP 2.0 a receive ID has eleven bits
pub eleven-bits : (s : Settings) → allowed s ≡ true → s.receive < 2048
eleven-bits s e = let most = ((allowed-exactly tp20 s).0 e).receive.1 in omega arith

-- ---- one end

-- the record once its request was handed over, with what is left of T_E
abbrev pub awaiting : Connection → (left : ℕ) → Connection
awaiting c left = with_attempt c (record { due = false; asked = true; wait = left; repeats = 0 })

module _ (limit : ℕ) (p : Profile) (s : Settings) where
  is-opened : allowed_by p s ≡ true → opening_as closed_record p s ≡ gives Good (requesting_as p s)
  unfolding opening_as
  is-opened a = rw a

  pub hands-c0 : (m : List ℕ) → due_of (requesting_as p s) m
      ≡ hand_over (record { id = p.request; payload = request_for p s.unit s.receive }) (awaiting (requesting_as p s) s.t_e)
  unfolding due_of request_due
  hands-c0 m = refl

  module _ (transmit : ℕ) where
    pub d0-arrives : (d0 : List ℕ) → reply_for p d0 s.receive ≡ Positive transmit → (left room : ℕ)
        → arrived limit (awaiting (requesting_as p s) left) (reply_id p s.unit) d0 room ≡ marked false (gives Good (agreeing (requesting_as p s) transmit))
    unfolding hears listens_on arrived on_reply
    d0-arrives d0 names left room = rw (eq-eqb (reply_id p s.unit) _ refl, names)

    pub hands-a0 : (m : List ℕ) → due_of (agreeing (requesting_as p s) transmit) m
        ≡ hand_over (record { id = transmit; payload = setup_of (own_fields s) }) (awaiting (agreeing (requesting_as p s) transmit) s.t_e)
    unfolding due_of request_due
    hands-a0 m = refl

    pub a1-arrives : (f : Fields) → 1 ≤ f.block → f.block ≤ 15 → (left room : ℕ)
        → arrived limit (awaiting (agreeing (requesting_as p s) transmit) left) s.receive (bytes_of (accept_of f)) room
        ≡ marked false (gives Good (opened (agreeing (requesting_as p s) transmit) f))
    unfolding hears listens_on arrived on_agreeing on_accept bad_block
    a1-arrives f least most left room =
        let is = accept-sorted f in
        let alike = sorted_by-other p (bytes_of (accept_of f)) (rw (ap (λ x. x.kind) is)) in
        rw (eq-eqb s.receive _ refl, alike, ap (λ x. x.padded) is, ap (λ x. x.kind) is, ne_eqb f.block 0 (omega (arith, least)), le-ltb 15 f.block most)

    -- all five calls are answered 0, the C0 and the A0 are handed over, and the record is open
    pub opened-fresh : allowed_by p s ≡ true → reply_for p (bytes_of (positive_of p s.receive transmit)) s.receive ≡ Positive transmit
        → (f : Fields) → 1 ≤ f.block → f.block ≤ 15 → (room : ℕ) → exchange limit p s transmit f room
        ≡ record {
          answers = replicate 5 (Channel Good);
          frames = record { id = p.request; payload = request_for p s.unit s.receive } ∷ record { id = transmit; payload = setup_of (own_fields s) } ∷ [];
          connection = opened (agreeing (requesting_as p s) transmit) f;
        }
    unfolding exchange
    opened-fresh a names f least most room =
        rw (is-opened a, hands-c0 [], d0-arrives _ names s.t_e room, hands-a0 [], a1-arrives f least most s.t_e room)

-- ---- two ends

-- what an A1 opens goes by its profile
goes : (tests : Bool) (p : Profile) (s : Settings) (transmit : ℕ) (f : Fields) → p.tests ≡ tests → goes_by tests (opened (agreeing (requesting_as p s) transmit) f) ≡ true
goes true p s transmit f e = e
goes false p s transmit f e = rw e

module _ (limit : ℕ) (tests : Bool) (p q : Profile) (by-p : p.tests ≡ tests) (by-q : q.tests ≡ tests) (s t : Settings) (a : allowed_by p s ≡ true) (a' : allowed_by q t ≡ true)
    (names : reply_for p (bytes_of (positive_of p s.receive t.receive)) s.receive ≡ Positive t.receive)
    (names' : reply_for q (bytes_of (positive_of q t.receive s.receive)) t.receive ≡ Positive s.receive) where
  -- every answer is 0, and the two are fresh, whatever their buffers
  pub opening-leads-to-fresh : (f g : Fields) → 1 ≤ f.block → f.block ≤ 15 → 1 ≤ g.block → g.block ≤ 15 → min t.block g.block ≡ min s.block f.block
      → (b c : List ℕ) (try : Try)
      → ((exchange limit p s t.receive f (length b)).answers ≡ replicate 5 (Channel Good))
      × ((exchange limit q t s.receive g (length c)).answers ≡ replicate 5 (Channel Good))
      × Fresh (opened_pair limit tests p q s t f g b c try)
  opening-leads-to-fresh f g least most least' most' agreed b c try =
      let x = allowed-parts p s a in
      let y = allowed-parts q t a' in
      rw (opened-fresh limit p s t.receive a names f least most (length b), opened-fresh limit q t s.receive a' names' g least' most' (length c)) (
        refl,
        refl,
        record {
          near = record { open' = goes tests p s t.receive f by-p; sender = refl; receiver = refl; tests = refl; accept = refl; t1 = x.t1; t_wait = x.t_wait };
          far = record { open' = goes tests q t s.receive g by-q; sender = refl; receiver = refl; tests = refl; accept = refl; t1 = y.t1; t_wait = y.t_wait };
          to-far = refl;
          to-near = refl;
          agreed = agreed;
          least = omega (arith, x.least);
          most = omega (arith, x.most);
          forward = refl;
          backward = refl;
          forth = refl;
          back = refl;
        },
      )

  -- each end's A1 with the other's own fields
  opened-to-each-other : (b c : List ℕ) (try : Try) → Fresh (opened_pair limit tests p q s t (own_fields t) (own_fields s) b c try)
  opened-to-each-other b c try =
      let x = allowed-parts p s a in
      let y = allowed-parts q t a' in
      (opening-leads-to-fresh (own_fields t) (own_fields s) y.least y.most x.least x.most (omega arith) b c try).2

-- ---- the profiles

-- the unit's side of a row
mirrored-row : (p : Profile) → Row p → Row (mirrored p)
mirrored-row p r = record { short = r.short; offset = r.offset; receives = r.transmits; transmits = r.receives }

-- a row's D0 names every transmit ID of its range
row-names : (p : Profile) → Row p → (receive transmit : ℕ) → Within p.transmits transmit → reply_for p (bytes_of (positive_of p receive transmit)) receive ≡ Positive transmit
row-names p r receive transmit h = ap (λ (x : Payload). reply_for p (bytes_of x) receive) (three r.short) ∙ positive_back p r receive transmit h
  where
    three : p.short ≡ true → positive_of p receive transmit ≡ short_reply_of 0xD0 transmit
    three e = rw e

opened-in-tp16 : (limit : ℕ) (p : Profile) → Row p → p.tests ≡ false → (s t : Settings) → allowed_by p s ≡ true → allowed_by (mirrored p) t ≡ true → (b b' : List ℕ) (try : Try)
    → Fresh (opened_pair limit false p (mirrored p) s t (own_fields t) (own_fields s) b b' try)
opened-in-tp16 limit p r none s t a a' =
    opened-to-each-other limit false p (mirrored p) none none s t a a'
    (row-names p r s.receive t.receive ((allowed-exactly (mirrored p) t).0 a').receive)
    (row-names (mirrored p) (mirrored-row p r) t.receive s.receive ((allowed-exactly p s).0 a).receive)

row-meets : (p : Profile) → Row p → p.tests ≡ false → allowed_by p (defaults16 p) ≡ true → allowed_by (mirrored p) (defaults16 (mirrored p)) ≡ true → RowMeets p
row-meets p r none a a' = record { fresh = λ limit. opened-in-tp16 limit p r none (defaults16 p) (defaults16 (mirrored p)) a a' }

pub openings-fresh : OpeningLeadsToFresh
unfolding allowed_by within bad_block tenths_of
openings-fresh =
    record {
      in-tp20 = λ limit s t a a'.
          let r = eleven-bits s a in
          let r' = eleven-bits t a' in
          opened-to-each-other limit true tp20 tp20 refl refl s t a a' (tp20-positive s.receive t.receive r r') (tp20-positive t.receive s.receive r' r);
      in-tp16 = opened-in-tp16;
      rows = (row-meets drive drive-row refl refl refl, row-meets comfort comfort-row refl refl refl, row-meets high high-row refl refl refl, row-meets low low-row refl refl refl);
    }
