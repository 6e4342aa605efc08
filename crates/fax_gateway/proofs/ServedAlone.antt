-- The calling leg is a function of its part of the trace.
use Rattle.std.proofs.Common.{◌≡◌, ℕ, ◌+◌, Bool, true, List, [], ◌∷◌, Option, Some, None, refl, sym, ◌∙◌, ap, subst, inl, inr}
use Rattle.fax_runcodes.specs.declared.Width.{Width}
use Rattle.fax_runcodes.specs.declared.Width.TheVariants.{W1728, W2048, W2432}
use Rattle.fax_runcodes.specs.declared.format.Format.{Format}
use Rattle.fax_runcodes.specs.declared.format.Coding.{Coding}
use Rattle.fax_runcodes.specs.Widths.{elements_of}
use Rattle.fax_runcodes.specs.Rows.{Elements, IsWidth}
use Rattle.fax_pagestore.specs.Pages.{PageValue}
use Rattle.fax_pagestore.specs.PageTexts.{MeansPage}
use Rattle.fax_pagestore.proofs.PageLaws.{pages_are_unique, pages_dont_fail}
use Rattle.fax_frames.specs.Capabilities.{format_of, coding_of}
use Rattle.fax_answer.specs.Table.{Reading, Question}
use Rattle.fax_answer.specs.Confirmation.{IsRead}
use Rattle.fax_call.specs.Writings.{Writing}
use Rattle.fax_gateway.specs.Setups.{Setup}
use Rattle.fax_gateway.specs.Events.{Event, Ring, FromCalling, FromCalled, Tick, Placed, Given, clock, rings}
use Rattle.fax_gateway.specs.CallingLegs.{CallingLeg, calling_leg, calling_after, decided_calling, told_calling, question}
use Rattle.fax_gateway.specs.Traces.{IsTrace}
use Rattle.fax_gateway.specs.Alone.{HeardEvent, Rang, Came, Ticked, calling_part, CallingAnswer, Numbers, Decides, Gives, calling_answers, IsServedAlone}

-- the part with how its images were read
data KnownWire : Type 0 where
  RangAt : (now : ℕ) → KnownWire
  CameAt : (octets : List ℕ) → (now : ℕ) → (read : Reading) → KnownWire
  TickedAt : (now : ℕ) → KnownWire

abbrev known_with : Event → ℕ → List KnownWire → List KnownWire
known_with (Ring at n) now part = RangAt now ∷ part
known_with (FromCalling octets at decided read) now part = CameAt octets now read ∷ part
known_with (FromCalled octets at decided) now part = part
known_with (Placed at connected) now part = part
known_with (Tick at given) now part = TickedAt now ∷ part

abbrev known_part : List Event → List KnownWire
known_part [] = []
known_part (e ∷ earlier) = known_with e (clock (e ∷ earlier)) (known_part earlier)

abbrev forget : List KnownWire → List HeardEvent
forget [] = []
forget (RangAt now ∷ part) = Rang now ∷ forget part
forget (CameAt octets now read ∷ part) = Came octets now ∷ forget part
forget (TickedAt now ∷ part) = Ticked now ∷ forget part

forget_is : (trace : List Event) → forget (known_part trace) ≡ calling_part trace
forget_is [] = refl
forget_is (Ring at n ∷ earlier) = ap (λ (p : List HeardEvent). Rang (clock (Ring at n ∷ earlier)) ∷ p) (forget_is earlier)
forget_is (FromCalling octets at d read ∷ earlier) = ap (λ (p : List HeardEvent). Came octets (clock (FromCalling octets at d read ∷ earlier)) ∷ p) (forget_is earlier)
forget_is (FromCalled octets at d ∷ earlier) = forget_is earlier
forget_is (Placed at c ∷ earlier) = forget_is earlier
forget_is (Tick at g ∷ earlier) = ap (λ (p : List HeardEvent). Ticked (clock (Tick at g ∷ earlier)) ∷ p) (forget_is earlier)

-- rings are numbered by those before them
abbrev rings_in : List KnownWire → ℕ
rings_in [] = 0
rings_in (RangAt now ∷ part) = rings_in part + 1
rings_in (CameAt octets now read ∷ part) = rings_in part
rings_in (TickedAt now ∷ part) = rings_in part

rings_are : (trace : List Event) → rings trace ≡ rings_in (known_part trace)
rings_are [] = refl
rings_are (Ring at n ∷ earlier) = ap (λ (k : ℕ). k + 1) (rings_are earlier)
rings_are (FromCalling octets at d read ∷ earlier) = rings_are earlier
rings_are (FromCalled octets at d ∷ earlier) = rings_are earlier
rings_are (Placed at c ∷ earlier) = rings_are earlier
rings_are (Tick at g ∷ earlier) = rings_are earlier

-- the leg
abbrev as_event : KnownWire → ℕ → Event
as_event (RangAt now) number = Ring now number
as_event (CameAt octets now read) number = FromCalling octets now true read
as_event (TickedAt now) number = Tick now (record { on_calling = None; on_called = None; report = None })

abbrev moment : KnownWire → ℕ
moment (RangAt now) = now
moment (CameAt octets now read) = now
moment (TickedAt now) = now

abbrev leg_of : Setup → List KnownWire → Option CallingLeg
leg_of setup [] = None
leg_of setup (h ∷ part) = calling_after setup (leg_of setup part) (moment h) (as_event h (rings_in part))

abbrev IfRings : Event → ℕ → Type 0
IfRings (Ring at number) before = number ≡ before
IfRings e before = Unit {0}

if_rings : (setup : Setup) (writes : Writing) (e : Event) (earlier : List Event) → IsTrace setup writes (e ∷ earlier) → IfRings e (rings_in (known_part earlier))
if_rings setup writes (Ring at n) earlier t = t.0.0 ∙ rings_are earlier
if_rings setup writes (FromCalling octets at d read) earlier t = tt
if_rings setup writes (FromCalled octets at d) earlier t = tt
if_rings setup writes (Placed at c) earlier t = tt
if_rings setup writes (Tick at g) earlier t = tt

ring_is : (setup : Setup) (o : Option CallingLeg) (now at m n : ℕ) → m ≡ n → calling_after setup o now (Ring at m) ≡ calling_after setup o now (Ring now n)
ring_is setup None now at m n e = ap (λ (k : ℕ). calling_after setup None now (Ring now k)) e
ring_is setup (Some l) now at m n e = ap (λ (k : ℕ). calling_after setup (Some l) now (Ring now k)) e

step_is : (setup : Setup) (o : Option CallingLeg) (part : List KnownWire) (e : Event) (now : ℕ) → IfRings e (rings_in part) → o ≡ leg_of setup part → calling_after setup o now e ≡ leg_of setup (known_with e now part)
step_is setup o part (Ring at n) now r h = ring_is setup o now at n (rings_in part) r ∙ ap (λ (o : Option CallingLeg). calling_after setup o now (Ring now (rings_in part))) h
step_is setup None part (FromCalling octets at d read) now r h = ap (λ (o : Option CallingLeg). calling_after setup o now (FromCalling octets now true read)) h
step_is setup (Some l) part (FromCalling octets at d read) now r h = ap (λ (o : Option CallingLeg). calling_after setup o now (FromCalling octets now true read)) h
step_is setup None part (FromCalled octets at d) now r h = h
step_is setup (Some l) part (FromCalled octets at d) now r h = h
step_is setup None part (Placed at c) now r h = h
step_is setup (Some l) part (Placed at c) now r h = h
step_is setup None part (Tick at g) now r h = ap (λ (o : Option CallingLeg). calling_after setup o now (Tick now (record { on_calling = None; on_called = None; report = None }))) h
step_is setup (Some l) part (Tick at g) now r h = ap (λ (o : Option CallingLeg). calling_after setup o now (Tick now (record { on_calling = None; on_called = None; report = None }))) h

leg_is : (setup : Setup) (writes : Writing) (trace : List Event) → IsTrace setup writes trace → calling_leg setup trace ≡ leg_of setup (known_part trace)
leg_is setup writes [] t = refl
leg_is setup writes (e ∷ earlier) t = step_is setup (calling_leg setup earlier) (known_part earlier) e (clock (e ∷ earlier)) (if_rings setup writes e earlier t) (leg_is setup writes earlier t.1)

-- the readings are fixed by the rest
abbrev AreKnown : Setup → List KnownWire → Type 0
AreKnown setup [] = Unit {0}
AreKnown setup (RangAt now ∷ part) = AreKnown setup part
AreKnown setup (CameAt octets now read ∷ part) = IsRead (question (leg_of setup part) now octets) read × AreKnown setup part
AreKnown setup (TickedAt now ∷ part) = AreKnown setup part

are_known : (setup : Setup) (writes : Writing) (trace : List Event) → IsTrace setup writes trace → AreKnown setup (known_part trace)
are_known setup writes [] t = tt
are_known setup writes (Ring at n ∷ earlier) t = are_known setup writes earlier t.1
are_known setup writes (FromCalling octets at d read ∷ earlier) t =
    (subst (λ (o : Option CallingLeg). IsRead (question o (clock (FromCalling octets at d read ∷ earlier)) octets) read) (leg_is setup writes earlier t.1) t.0.1, are_known setup writes earlier t.1)
are_known setup writes (FromCalled octets at d ∷ earlier) t = are_known setup writes earlier t.1
are_known setup writes (Placed at c ∷ earlier) t = are_known setup writes earlier t.1
are_known setup writes (Tick at g ∷ earlier) t = are_known setup writes earlier t.1

is_width : (width : Width) → IsWidth (elements_of width)
is_width W1728 = inl refl
is_width W2048 = inr (inl refl)
is_width W2432 = inr (inr refl)

page_as : (page : PageValue) (format : Format) → page.format ≡ format → page ≡ record { format = format; rows = page.rows }
page_as page format e = ap (λ (f : Format). let p : PageValue = record { format = f; rows = page.rows } in p) e

pub same_page : (format : Format) (coding : Coding) (octets : List ℕ) (p v : PageValue) → MeansPage format coding octets p → MeansPage format coding octets v → p ≡ v
same_page format coding octets p v a b =
    let rows : p.rows ≡ v.rows = pages_are_unique (elements_of format.width) coding octets p.rows v.rows (is_width format.width) a.1 b.1 in
    page_as p format a.0 ∙ ap (λ (rs : List Elements). let q : PageValue = record { format = format; rows = rs } in q) rows ∙ sym (page_as v format b.0)

same_read : (q : Option Question) (r s : Reading) → IsRead q r → IsRead q s → r ≡ s
same_read None r s a b = a ∙ sym b
same_read (Some q) None None a b = refl
same_read (Some q) None (Some p) a b = absurd (pages_dont_fail _ _ q.octets p.rows a.0 (is_width (format_of q.dcs).width) b.1 a.1)
same_read (Some q) (Some p) None a b = absurd (pages_dont_fail _ _ q.octets p.rows b.0 (is_width (format_of q.dcs).width) a.1 b.1)
same_read (Some q) (Some p) (Some v) a b = ap (λ (x : PageValue). let r : Reading = Some x in r) (same_page (format_of q.dcs) (coding_of q.dcs) q.octets p v a b)

same_known : (setup : Setup) (xs ys : List KnownWire) → AreKnown setup xs → AreKnown setup ys → forget xs ≡ forget ys → xs ≡ ys
same_known setup [] [] a b h = refl
same_known setup [] (RangAt n ∷ ys) a b h = cc
same_known setup [] (TickedAt n ∷ ys) a b h = cc
same_known setup [] (CameAt us n s ∷ ys) a b h = cc
same_known setup (RangAt m ∷ xs) [] a b h = cc
same_known setup (TickedAt m ∷ xs) [] a b h = cc
same_known setup (CameAt os m r ∷ xs) [] a b h = cc
same_known setup (RangAt m ∷ xs) (RangAt n ∷ ys) a b h =
    let e : m ≡ n = cc in
    let k : forget xs ≡ forget ys = cc in
    ap (λ (x : ℕ). RangAt x ∷ xs) e ∙ ap (λ (p : List KnownWire). RangAt n ∷ p) (same_known setup xs ys a b k)
same_known setup (TickedAt m ∷ xs) (TickedAt n ∷ ys) a b h =
    let e : m ≡ n = cc in
    let k : forget xs ≡ forget ys = cc in
    ap (λ (x : ℕ). TickedAt x ∷ xs) e ∙ ap (λ (p : List KnownWire). TickedAt n ∷ p) (same_known setup xs ys a b k)
same_known setup (CameAt os m r ∷ xs) (CameAt us n s ∷ ys) a b h =
    let e : m ≡ n = cc in
    let f : os ≡ us = cc in
    let k : forget xs ≡ forget ys = cc in
    let p : xs ≡ ys = same_known setup xs ys a.1 b.1 k in
    let moved : IsRead (question (leg_of setup ys) n us) r =
    subst (λ (part : List KnownWire). IsRead (question (leg_of setup part) n us) r) p
    (subst (λ (x : ℕ). IsRead (question (leg_of setup xs) x us) r) e (subst (λ (x : List ℕ). IsRead (question (leg_of setup xs) m x) r) f a.0)) in
    ap (λ (x : List ℕ). CameAt x m r ∷ xs) f ∙ ap (λ (x : ℕ). CameAt us x r ∷ xs) e
    ∙ ap (λ (x : Reading). CameAt us n x ∷ xs) (same_read (question (leg_of setup ys) n us) r s moved b.0)
    ∙ ap (λ (part : List KnownWire). CameAt us n s ∷ part) p
same_known setup (RangAt m ∷ xs) (TickedAt n ∷ ys) a b h = cc
same_known setup (RangAt m ∷ xs) (CameAt us n s ∷ ys) a b h = cc
same_known setup (TickedAt m ∷ xs) (RangAt n ∷ ys) a b h = cc
same_known setup (TickedAt m ∷ xs) (CameAt us n s ∷ ys) a b h = cc
same_known setup (CameAt os m r ∷ xs) (RangAt n ∷ ys) a b h = cc
same_known setup (CameAt os m r ∷ xs) (TickedAt n ∷ ys) a b h = cc

-- the answers on the calling leg are those that its part asks for
abbrev answer_to : Setup → Option CallingLeg → ℕ → KnownWire → CallingAnswer
answer_to setup o number (RangAt now) = Numbers number
answer_to setup o number (CameAt octets now read) = Decides (decided_calling o octets)
answer_to setup o number (TickedAt now) = Gives (told_calling setup o now)

abbrev answers_to : Setup → List KnownWire → List CallingAnswer
answers_to setup [] = []
answers_to setup (h ∷ part) = answer_to setup (leg_of setup part) (rings_in part) h ∷ answers_to setup part

answers_are : (setup : Setup) (writes : Writing) (trace : List Event) → IsTrace setup writes trace → calling_answers trace ≡ answers_to setup (known_part trace)
answers_are setup writes [] t = refl
answers_are setup writes (Ring at n ∷ earlier) t =
    ap (λ (k : ℕ). Numbers k ∷ calling_answers earlier) (t.0.0 ∙ rings_are earlier) ∙ ap (λ (xs : List CallingAnswer). Numbers (rings_in (known_part earlier)) ∷ xs) (answers_are setup writes earlier t.1)
answers_are setup writes (FromCalling octets at d read ∷ earlier) t =
    ap (λ (x : Bool). Decides x ∷ calling_answers earlier) (t.0.0 ∙ ap (λ (o : Option CallingLeg). decided_calling o octets) (leg_is setup writes earlier t.1))
    ∙ ap (λ (xs : List CallingAnswer). Decides (decided_calling (leg_of setup (known_part earlier)) octets) ∷ xs) (answers_are setup writes earlier t.1)
answers_are setup writes (FromCalled octets at d ∷ earlier) t = answers_are setup writes earlier t.1
answers_are setup writes (Placed at c ∷ earlier) t = answers_are setup writes earlier t.1
answers_are setup writes (Tick at g ∷ earlier) t =
    let now : ℕ = clock (Tick at g ∷ earlier) in
    ap (λ (x : Option (List ℕ)). Gives x ∷ calling_answers earlier) (ap (λ (y : Given). y.on_calling) t.0 ∙ ap (λ (o : Option CallingLeg). told_calling setup o now) (leg_is setup writes earlier t.1))
    ∙ ap (λ (xs : List CallingAnswer). Gives (told_calling setup (leg_of setup (known_part earlier)) now) ∷ xs) (answers_are setup writes earlier t.1)

pub served_alone : IsServedAlone
served_alone setup writes others s t is_s is_t h =
    let k : known_part s ≡ known_part t = same_known setup (known_part s) (known_part t) (are_known setup writes s is_s) (are_known setup others t is_t) (forget_is s ∙ h ∙ sym (forget_is t)) in (
      leg_is setup writes s is_s ∙ ap (leg_of setup) k ∙ sym (leg_is setup others t is_t),
      answers_are setup writes s is_s ∙ ap (answers_to setup) k ∙ sym (answers_are setup others t is_t),
    )
