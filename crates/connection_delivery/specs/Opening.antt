-- 01, "Opening": how a record comes to be fresh, by the very definitions of its calls. What the peer sends comes as bytes.
use Rattle.std.specs.Prelude.{ℕ, Bool, true, false, List, [], ◌∷◌, ◌++◌, length, ◌≡◌, if◌then◌else◌}
use Rattle.std.specs.declared.option.Option.{Option}
use Rattle.std.specs.declared.option.Option.TheVariants.{None, Some}
use Rattle.telegram.specs.Outgoing.{bytes_of}
use Rattle.telegram.specs.declared.payload.Payload.{Payload}
use Rattle.opening.specs.Opening.{reply_of}
use Rattle.opening.specs.Short.{short_reply_of}
use Rattle.profile.specs.Profile.{tp20, drive, comfort, high, low}
use Rattle.profile.specs.Forms.{Row}
use Rattle.profile.specs.Opening.{reply_id}
use Rattle.profile.specs.declared.Profile.{Profile}
use Rattle.telegram.specs.Kinds.{accept_of}
use Rattle.telegram.specs.declared.kinds.Parameters.{Parameters as Fields}
use Rattle.settings.specs.Settings.{defaults16, allowed_by, allowed}
use Rattle.settings.specs.Agreed.{own_fields}
use Rattle.settings.specs.declared.Settings.{Settings}
use Rattle.open_end.specs.declared.answers.Answer.{Answer}
use Rattle.open_end.specs.declared.Frame.{Frame}
use Rattle.connection.specs.declared.Connection.{Connection}
use Rattle.connection.specs.Record.{closed_record}
use Rattle.connection.specs.Calls.{opening_as, arrived, due_of}
use Rattle.delivery.specs.System.{Try, System}
use Rattle.delivery.specs.Claim.{Fresh, no_history}
use Rattle.connection_delivery.specs.Ends.{connection_end}

-- the answers of the five calls, the frames handed over, and the record that is left
pub record Exchange : Type 0 where
  pub answers : List Answer
  pub frames : List Frame
  pub connection : Connection

-- the frame of a due call, if any
abbrev pub handed_over : Option Frame → List Frame
handed_over None = []
handed_over (Some f) = f ∷ []

-- the unit's D0 that names a transmit ID, in the profile's form
abbrev pub positive_of : Profile → (receive transmit : ℕ) → Payload
positive_of p receive transmit = if p.short then short_reply_of 0xD0 transmit else reply_of 0xD0 receive transmit

-- a closed record is opened in a profile; the C0 is handed over; the D0 that names the transmit ID arrives; the A0 is handed over; the A1 arrives
unfoldable pub exchange : (limit : ℕ) → Profile → Settings → (transmit : ℕ) → Fields → (room : ℕ) → Exchange
exchange limit p s transmit fields room =
    (let o = opening_as closed_record p s in
    let c0 = due_of o.left [] in
    let d0 = arrived limit c0.left (reply_id p s.unit) (bytes_of (positive_of p s.receive transmit)) room in
    let a0 = due_of d0.left [] in
    let a1 = arrived limit a0.left s.receive (bytes_of (accept_of fields)) room in
    record {
      answers = o.told.answer ∷ c0.told.answer ∷ d0.told.answer ∷ a0.told.answer ∷ a1.told.answer ∷ [];
      frames = handed_over c0.frame ++ handed_over a0.frame;
      connection = a1.left;
    })

-- two records opened to each other's receive IDs, each in its profile and with an A1 of its own, and nothing on its way
abbrev pub opened_pair :
    (limit : ℕ) → (tests : Bool) → (p q : Profile) → (s t : Settings) → (fields fields' : Fields) → (b b' : List ℕ) → Try
    → System (connection_end limit tests) (connection_end limit tests)
opened_pair limit tests p q s t fields fields' b b' try =
    record {
      near = record { state = (exchange limit p s t.receive fields (length b)).connection; buffer = b };
      far = record { state = (exchange limit q t s.receive fields' (length b')).connection; buffer = b' };
      forward = [];
      backward = [];
      forth = no_history try;
      back = no_history try;
    }

-- a profile with the ranges of receive and transmit IDs exchanged: where a unit of that row listens, and where it sends
abbrev pub mirrored : Profile → Profile
mirrored p =
    record {
      request = p.request;
      reply = p.reply;
      offset = p.offset;
      units = p.units;
      receives = p.transmits;
      transmits = p.receives;
      short = p.short;
      tests = p.tests;
      least_t3 = p.least_t3;
      bounded = p.bounded;
    }

-- the defaults of a row and those of its unit open two fresh ends
pub record RowMeets (p : Profile) : Type 0 where
  pub fresh :
      (limit : ℕ) (b b' : List ℕ) (try : Try)
      → (let s = defaults16 p in let t = defaults16 (mirrored p) in Fresh (opened_pair limit false p (mirrored p) s t (own_fields t) (own_fields s) b b' try))

-- settings that the profiles allow open two fresh ends, each A1 with the other's own fields: two records in TP 2.0;
-- and in a row of TP 1.6 a record and one that stands for its unit, each listening where the other may transmit
pub record OpeningLeadsToFresh : Type 0 where
  pub in-tp20 :
      (limit : ℕ) (s t : Settings) → allowed s ≡ true → allowed t ≡ true → (b b' : List ℕ) (try : Try)
      → Fresh (opened_pair limit true tp20 tp20 s t (own_fields t) (own_fields s) b b' try)
  pub in-tp16 :
      (limit : ℕ) (p : Profile) → Row p → p.tests ≡ false → (s t : Settings) → allowed_by p s ≡ true → allowed_by (mirrored p) t ≡ true → (b b' : List ℕ) (try : Try)
      → Fresh (opened_pair limit false p (mirrored p) s t (own_fields t) (own_fields s) b b' try)
  -- there are such settings in each row
  pub rows : RowMeets drive × RowMeets comfort × RowMeets high × RowMeets low
