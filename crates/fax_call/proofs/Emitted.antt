-- The images that the caller emits are pages of its job, in order.
use Rattle.std.proofs.Common.{◌≡◌, ℕ, suc, ◌+◌, ◌-◌, ◌<◌, ◌≤◌, Bool, true, false, not, ◌&&◌, nat_eq, nat_lt, nat_le, List, [], ◌∷◌, ◌++◌, length, take, drop, Option, Some, None, Result, Ok, Err, refl, sym, ◌∙◌, ap, subst, arith, if◌then◌else◌, slice_get}
use Rattle.std.proofs.Common.{length-drop, length-take}
use Rattle.fax_runcodes.specs.declared.format.Format.{Format}
use Rattle.fax_frames.specs.declared.dis.Dis.{Dis}
use Rattle.fax_frames.specs.declared.dcs.Dcs.{Dcs}
use Rattle.fax_frames.specs.declared.rate.Rate.{Rate}
use Rattle.fax_frames.specs.declared.frame.Frame.{Frame}
use Rattle.fax_frames.specs.declared.frame.Frame.TheVariants as frames
use Rattle.fax_frames.specs.declared.writing.Plain.TheVariants as plain
use Rattle.fax_frames.specs.declared.choice.Refusal.{Refusal}
use Rattle.fax_frames.specs.declared.choice.Refusal.TheVariants as refusals
use Rattle.fax_frames.specs.FieldBits.{has_bit}
use Rattle.fax_frames.specs.Rates.{kind_of}
use Rattle.fax_frames.specs.Capabilities.{format_of, rates_in, has_width}
use Rattle.fax_frames.specs.Choice.{dcs_at, choice}
use Rattle.fax_frames.specs.Frames.{frame_of}
use Rattle.fax_frames.specs.Written.{written_plain}
use Rattle.fax_timers.specs.Moments.{is_due}
use Rattle.fax_timers.specs.Paces.{pace_allows}
use Rattle.fax_ifp.specs.Elements as elements
use Rattle.fax_ifp.specs.ImageOctets.{image_octets}
use Rattle.fax_ifp.specs.Pieces as pieces
use Rattle.fax_jobs.specs.declared.outcome.Outcome.TheVariants as outcomes
use Rattle.fax_jobs.specs.Jobs.{JobValue, IsJob}
use Rattle.fax_call.specs.declared.state.State.{State}
use Rattle.fax_call.specs.declared.state.State.TheVariants.{Idle, AwaitDis, AwaitCfr, AwaitMcf, Closing}
use Rattle.fax_call.specs.Replies.{Packet, Part, Due, One, Text, part_length, is_last_page, turn_after, command_after, command, goodbye, waits}
use Rattle.fax_call.specs.Table.{Counts, Move, Stays, Trains, Sends, AsksAgain, Turns, Closes, HangsUp, first_try, next_try, next_step, next_page, one_delivered, one_refused, by_choice, tries_again, asks_again, after_refusal, turns_or, gives_up_dis, on_frame, on_timers}
use Rattle.fax_call.proofs.Due.{DueAt, MoveDue, IsDue, moved_due, next_due, frame_due, timers_due, after_due, start_due}
use Rattle.fax_call.specs.Calls.{CallerCore, formats_of, started, moved, came, timed, text_at, TakenPart, taken_text, taken, state_when_given, after_giving, given_first, paced, TickResult, CallEvent, Comes, Ticks, after_events}
use Rattle.fax_call.specs.Emission.{Emission, SinceDcs, since_dcs, emitted_with, emitted_at, Mark, Gave, Begins, gave_all, elements_given, acknowledged_by, marks_heard, marks_given, marks_after, is_command, Reply, Asked, Unasked, Answered, reply_heard, replied, IsAnswered, EmitsBy, Emits, EmitsThePages}
use Rattle.fax_call.proofs.PacketsBack.{elements_in, part_back, read_dcs}
use Rattle.fax_call.proofs.Waiting.{Texts, Quiet, pushed_given, quiet_emits, quiet_answered, quiet_replied, TextReady, AfterText, SafeTo, PostOf, signal_safe, frame_safe, high_speed, told_part, part_some, training_safe, Keeps, signal_keeps, training_keeps, command_safe, no_text, Asks, command_asks, image_asks, image_safe, text_goes_on, emits_text, means_page, IsFormatOf}

-- The core in a call.
abbrev pub HasFormat : JobValue → ℕ → State → Type 0
HasFormat job page (AwaitCfr dis dcs) = IsFormatOf job page dcs
HasFormat job page (AwaitMcf dis dcs) = IsFormatOf job page dcs
HasFormat job page state = Unit {0}

-- where a command waits or was given, the page due is the one emitted last
abbrev pub IsSent : Option ℕ → ℕ → State → List Due → Type 0
IsSent last page (AwaitMcf dis dcs) due = no_text due ≡ true → last ≡ Some page
IsSent last page state due = Unit {0}

-- Whose turn it is. In AwaitMcf the last image is asked about once nothing waits; until its text was given, as in AwaitDis and AwaitCfr,
-- the page due is the one that the answers call for. What is heard in between changes none of it.
abbrev pub McfTurn : Option ℕ → Reply → ℕ → List Due → List elements.Element → Type 0
McfTurn last r page [] before = r ≡ Asked
McfTurn last r page (d ∷ due) before = Asks (d ∷ due) before × (no_text (d ∷ due) ≡ false → IsAnswered last r page)

abbrev pub InTurn : Option ℕ → Reply → ℕ → State → List Due → List elements.Element → Type 0
InTurn last r page AwaitDis due before = IsAnswered last r page × Keeps due before
InTurn last r page (AwaitCfr dis dcs) due before = IsAnswered last r page × Keeps due before
InTurn last r page (AwaitMcf dis dcs) due before = McfTurn last r page due before
InTurn last r page state due before = no_text due ≡ true

-- what a frame that is heard leaves as it is
pub record Rep (texts : Texts) (job : JobValue) (a : CallerCore) (marks : List Mark) (last : Option ℕ) : Type 0 where
  pub is_job : IsJob job
  pub emits : Emits job marks last
  pub safe : SafeTo texts job a.counts.page (PostOf a.state) a.waiting (elements_given marks)
  pub within : a.counts.page < length job.pages
  pub format : HasFormat job a.counts.page a.state
  pub sent : IsSent last a.counts.page a.state a.waiting
  pub due : IsDue (formats_of job) a
  pub same_pages : a.pages ≡ length job.pages

pub record Good (texts : Texts) (job : JobValue) (a : CallerCore) (marks : List Mark) : Type 0 where
  pub last : Option ℕ
  pub kept : Rep texts job a marks last
  pub turn : InTurn last (replied marks) a.counts.page a.state a.waiting (elements_given marks)

-- what giving the first packet that waits leaves
pub record Gives (texts : Texts) (job : JobValue) (page : ℕ) (state : State) (marks : List Mark) (t : TakenPart) : Type 0 where
  pub last : Option ℕ
  pub emits : Emits job (gave_all (elements_in t.packet) marks) last
  pub safe : SafeTo texts job page (PostOf state) t.rest (elements_given (gave_all (elements_in t.packet) marks))
  pub turn : InTurn last (replied (gave_all (elements_in t.packet) marks)) page state t.rest (elements_given (gave_all (elements_in t.packet) marks))
  pub sent : IsSent last page state t.rest

-- the turn, when a packet is given
one_turn : (last : Option ℕ) (page : ℕ) (state : State) (p : Packet) (due : List Due) (marks : List Mark) → Quiet (elements_given marks) (elements_in p) →
    InTurn last (replied marks) page state (One p ∷ due) (elements_given marks) →
    InTurn last (replied (gave_all (elements_in p) marks)) page state due (elements_given (gave_all (elements_in p) marks))
one_turn last page Idle p due marks q t = t
one_turn last page (Closing o) p due marks q t = t
one_turn last page AwaitDis p due marks q t =
    (quiet_answered (elements_in p) marks last page q t.1.0 t.0, subst (Keeps due) (sym (pushed_given (elements_in p) marks)) t.1.1)
one_turn last page (AwaitCfr dis dcs) p due marks q t =
    (quiet_answered (elements_in p) marks last page q t.1.0 t.0, subst (Keeps due) (sym (pushed_given (elements_in p) marks)) t.1.1)
one_turn last page (AwaitMcf dis dcs) p [] marks q t = quiet_replied (elements_in p) marks q ∙ t.0 (replied marks)
one_turn last page (AwaitMcf dis dcs) p (d ∷ due) marks q t =
    (subst (Asks (d ∷ due)) (sym (pushed_given (elements_in p) marks)) t.0.1, λ e. quiet_answered (elements_in p) marks last page q t.0.0 (t.1 e))

-- where a text waits, its page is the one that the answers call for
text_answered : (last : Option ℕ) (r : Reply) (page : ℕ) (state : State) (n : ℕ) (dcs : Dcs) (from : ℕ) (due : List Due) (before : List elements.Element) →
    InTurn last r page state (Text n dcs from ∷ due) before → IsAnswered last r page
text_answered last r page Idle n dcs from due before t = cc
text_answered last r page (Closing o) n dcs from due before t = cc
text_answered last r page AwaitDis n dcs from due before t = absurd t.1
text_answered last r page (AwaitCfr dis d) n dcs from due before t = absurd t.1
text_answered last r page (AwaitMcf dis d) n dcs from due before t = t.1 refl

part_turn : (last : Option ℕ) (r s : Reply) (page : ℕ) (state : State) (n : ℕ) (dcs : Dcs) (from more : ℕ) (due : List Due) (before after : List elements.Element) →
    InTurn last r page state (Text n dcs from ∷ due) before → IsAnswered last s page → InTurn last s page state (Text n dcs more ∷ due) after
part_turn last r s page Idle n dcs from more due before after t h = t
part_turn last r s page (Closing o) n dcs from more due before after t h = t
part_turn last r s page AwaitDis n dcs from more due before after t h = absurd t.1
part_turn last r s page (AwaitCfr dis d) n dcs from more due before after t h = absurd t.1
part_turn last r s page (AwaitMcf dis d) n dcs from more due before after t h = (t.0, λ e. h)

end_turn : (last : Option ℕ) (r s : Reply) (page : ℕ) (state : State) (n : ℕ) (dcs : Dcs) (from : ℕ) (due : List Due) (before after : List elements.Element) →
    InTurn last r page state (Text n dcs from ∷ due) before → InTurn (Some page) s page state due after
end_turn last r s page Idle n dcs from due before after t = cc
end_turn last r s page (Closing o) n dcs from due before after t = cc
end_turn last r s page AwaitDis n dcs from due before after t = absurd t.1
end_turn last r s page (AwaitCfr dis d) n dcs from due before after t = absurd t.1
end_turn last r s page (AwaitMcf dis d) n dcs from [] before after t = absurd (t.0.1 after)
end_turn last r s page (AwaitMcf dis d) n dcs from (x ∷ due) before after t = let h : no_text (x ∷ due) ≡ true = t.0.0 in (t.0.1 after, λ e. cc)

turn_when_given : (last : Option ℕ) (r : Reply) (page : ℕ) (state : State) (before : List elements.Element) → InTurn last r page state [] before → InTurn last r page (state_when_given state) [] before
turn_when_given last r page Idle before t = t
turn_when_given last r page AwaitDis before t = t
turn_when_given last r page (AwaitCfr dis dcs) before t = t
turn_when_given last r page (AwaitMcf dis dcs) before t = t
turn_when_given last r page (Closing o) before t = t

sent_one : (last : Option ℕ) (page : ℕ) (state : State) (p : Packet) (due : List Due) → IsSent last page state (One p ∷ due) → IsSent last page state due
sent_one last page Idle p due s = tt
sent_one last page AwaitDis p due s = tt
sent_one last page (AwaitCfr dis dcs) p due s = tt
sent_one last page (AwaitMcf dis dcs) p due s = s
sent_one last page (Closing o) p due s = tt

sent_text : (last : Option ℕ) (page : ℕ) (state : State) (n : ℕ) (d : Dcs) (from : ℕ) (due : List Due) → IsSent last page state (Text n d from ∷ due)
sent_text last page Idle n d from due = tt
sent_text last page AwaitDis n d from due = tt
sent_text last page (AwaitCfr dis dcs) n d from due = tt
sent_text last page (AwaitMcf dis dcs) n d from due = λ e. cc
sent_text last page (Closing o) n d from due = tt

sent_page : (page : ℕ) (state : State) (due : List Due) → IsSent (Some page) page state due
sent_page page Idle due = tt
sent_page page AwaitDis due = tt
sent_page page (AwaitCfr dis dcs) due = tt
sent_page page (AwaitMcf dis dcs) due = λ e. refl
sent_page page (Closing o) due = tt

gives_one : (texts : Texts) (job : JobValue) (page : ℕ) (state : State) (marks : List Mark) (p : Packet) (due : List Due) (last : Option ℕ) →
    Emits job marks last → SafeTo texts job page (PostOf state) (One p ∷ due) (elements_given marks) → InTurn last (replied marks) page state (One p ∷ due) (elements_given marks) → IsSent last page state (One p ∷ due) →
    Gives texts job page state marks (record { packet = p; rest = due })
gives_one texts job page state marks p due last e s t i =
    record {
      last = last;
      emits = quiet_emits job (elements_in p) marks last s.0 e;
      safe = subst (SafeTo texts job page (PostOf state) due) (sym (pushed_given (elements_in p) marks)) s.1;
      turn = one_turn last page state p due marks s.0 t;
      sent = sent_one last page state p due i;
    }

pub not_last : (o : Option SinceDcs) (i : Option pieces.Image) (begun : List ℕ) (kind : ℕ) (os : List ℕ) → emitted_with o i begun kind 6 os ≡ None
not_last None i begun kind os = refl
not_last (Some s) None begun kind os = refl
not_last (Some s) (Some i) begun kind os = by (nat_eq kind i.kind)
  where
    by : (t : Bool) → if◌then◌else◌ {A = Option Emission} (t && (nat_eq 6 7 && nat_lt 1 s.signals)) (Some (record { octets = begun ++ os; dcs = s.dcs })) None ≡ None
    by true = refl
    by false = refl

gives_part : (texts : Texts) (job : JobValue) (page : ℕ) (state : State) (marks : List Mark) (dcs : Dcs) (from : ℕ) (due : List Due) (last : Option ℕ) →
    Emits job marks last → SafeTo texts job page (PostOf state) (Text page dcs from ∷ due) (elements_given marks) → InTurn last (replied marks) page state (Text page dcs from ∷ due) (elements_given marks) →
    part_length dcs < length (drop from (text_at texts.writes job page dcs)) →
    Gives texts job page state marks (record { packet = Part (kind_of dcs.rate) false (take (part_length dcs) (drop from (text_at texts.writes job page dcs))); rest = Text page dcs (from + part_length dcs) ∷ due })
gives_part texts job page state marks dcs from due last e s t h =
    let os : List ℕ = take (part_length dcs) (drop from (text_at texts.writes job page dcs)) in
    let ps = part_some dcs.rate in
    let l : length os ≡ part_length dcs = grind (arith, length-take) in
    let l1 : 1 ≤ part_length dcs = ps.0 in let l2 : part_length dcs ≤ 65535 = ps.1 in
    let before : List elements.Element = elements_given marks in
    let q : emitted_at before (elements.Field (kind_of dcs.rate) 6 os) ≡ None = not_last (since_dcs before) (pieces.open_image before) (image_octets before) (kind_of dcs.rate) os in
    let more : List Due = Text page dcs (from + part_length dcs) ∷ due in
    let X : List elements.Element → Type 0 = λ es. (Emits job (gave_all es marks) last) × SafeTo texts job page (PostOf state) more (elements_given (gave_all es marks)) × InTurn last (replied (gave_all es marks)) page state more (elements_given (gave_all es marks)) in
    let es : List elements.Element = elements.Field (kind_of dcs.rate) 6 os ∷ [] in
    let x : X (elements_in (Part (kind_of dcs.rate) false os)) = subst X (sym (part_back dcs.rate false os (omega arith) (omega arith))) (
      quiet_emits job es marks last (q, tt) e,
      (refl, text_goes_on texts job page dcs from (part_length dcs) before s.1 h, s.2),
      part_turn last (replied marks) (replied (gave_all es marks)) page state page dcs from (from + part_length dcs) due before (elements_given (gave_all es marks)) t
          (quiet_answered es marks last page (q, tt) (ap is_command (high_speed dcs.rate 6 before), tt) (text_answered last (replied marks) page state page dcs from due before t)),
    ) in
    record { last = last; emits = x.0; safe = x.1; turn = x.2; sent = sent_text last page state page dcs (from + part_length dcs) due }

pub gives_end : (texts : Texts) (job : JobValue) (page : ℕ) (state : State) (marks : List Mark) (dcs : Dcs) (from : ℕ) (due : List Due) (last : Option ℕ) → IsJob job → page < length job.pages →
    Emits job marks last → SafeTo texts job page (PostOf state) (Text page dcs from ∷ due) (elements_given marks) → InTurn last (replied marks) page state (Text page dcs from ∷ due) (elements_given marks) →
    length (drop from (text_at texts.writes job page dcs)) ≤ part_length dcs →
    Gives texts job page state marks (record { packet = Part (kind_of dcs.rate) true (drop from (text_at texts.writes job page dcs)); rest = due })
gives_end texts job page state marks dcs from due last is within e s turn h =
    let text : List ℕ = text_at texts.writes job page dcs in
    let os : List ℕ = drop from text in
    let before : List elements.Element = elements_given marks in
    let t : TextReady texts job page dcs from before = s.1 in
    let left : from < length text = t.left in
    let l : length os ≡ length text - from = length-drop from text in
    let l2 : part_length dcs ≤ 65535 = (part_some dcs.rate).1 in
    let f : elements.Element = elements.Field (kind_of dcs.rate) 7 os in
    let emission : Emission = record { octets = text; dcs = read_dcs dcs } in
    let q : emitted_at before f ≡ Some emission = emits_text texts job page dcs from before t in
    let X : List elements.Element → Type 0 = λ es. (Emits job (gave_all es marks) (Some page)) × SafeTo texts job page (PostOf state) due (elements_given (gave_all es marks)) × InTurn (Some page) (replied (gave_all es marks)) page state due (elements_given (gave_all es marks)) in
    let x : X (elements_in (Part (kind_of dcs.rate) true os)) = subst X (sym (part_back dcs.rate true os (omega arith) (omega arith))) (
      subst (λ (o : Option Emission). EmitsBy job o (replied marks) (Some page) (Emits job marks)) (sym q)
          (means_page texts job page dcs is within t.format_is, last, e, text_answered last (replied marks) page state page dcs from due before turn),
      s.2 (f ∷ before) (record { n = suc t.n; told = told_part dcs.rate 7 os before (read_dcs dcs) (suc (suc t.n)) t.told }),
      end_turn last (replied marks) (replied (Gave f ∷ marks)) page state page dcs from due before (f ∷ before) turn,
    ) in
    record { last = Some page; emits = x.0; safe = x.1; turn = x.2; sent = sent_page page state due }

-- the last part ends the image of the page due
pub end_emits : (texts : Texts) (job : JobValue) (page : ℕ) (state : State) (marks : List Mark) (dcs : Dcs) (from : ℕ) (due : List Due) (last : Option ℕ) → IsJob job → page < length job.pages →
    Emits job marks last → SafeTo texts job page (PostOf state) (Text page dcs from ∷ due) (elements_given marks) → InTurn last (replied marks) page state (Text page dcs from ∷ due) (elements_given marks) →
    length (drop from (text_at texts.writes job page dcs)) ≤ part_length dcs →
    Emits job (gave_all (elements_in (Part (kind_of dcs.rate) true (drop from (text_at texts.writes job page dcs)))) marks) (Some page)
unfolding gives_end
end_emits texts job page state marks dcs from due last is within e s turn h = (gives_end texts job page state marks dcs from due last is within e s turn h).emits

pub le_if : (m n : ℕ) → nat_le m n ≡ true → m ≤ n
le_if m n h = grind (arith)

pub gt_if : (m n : ℕ) → nat_le m n ≡ false → n < m
gt_if m n h = grind (arith)

gives_text : (texts : Texts) (job : JobValue) (page : ℕ) (state : State) (marks : List Mark) (dcs : Dcs) (from : ℕ) (due : List Due) (last : Option ℕ) → IsJob job → page < length job.pages →
    Emits job marks last → SafeTo texts job page (PostOf state) (Text page dcs from ∷ due) (elements_given marks) → InTurn last (replied marks) page state (Text page dcs from ∷ due) (elements_given marks) →
    Gives texts job page state marks (taken_text page dcs from (text_at texts.writes job page dcs) due)
gives_text texts job page state marks dcs from due last is within e s n = by (nat_le (length (drop from (text_at texts.writes job page dcs))) (part_length dcs)) refl
  where
    by : (t : Bool) → nat_le (length (drop from (text_at texts.writes job page dcs))) (part_length dcs) ≡ t →
        Gives texts job page state marks (if◌then◌else◌ {A = TakenPart} t (record { packet = Part (kind_of dcs.rate) true (drop from (text_at texts.writes job page dcs)); rest = due }) (record { packet = Part (kind_of dcs.rate) false (take (part_length dcs) (drop from (text_at texts.writes job page dcs))); rest = Text page dcs (from + part_length dcs) ∷ due }))
    by true h = gives_end texts job page state marks dcs from due last is within e s n (le_if (length (drop from (text_at texts.writes job page dcs))) (part_length dcs) h)
    by false h = gives_part texts job page state marks dcs from due last e s n (gt_if (length (drop from (text_at texts.writes job page dcs))) (part_length dcs) h)

gives_first : (texts : Texts) (job : JobValue) (page : ℕ) (state : State) (marks : List Mark) (d : Due) (due : List Due) (last : Option ℕ) → IsJob job → page < length job.pages →
    Emits job marks last → SafeTo texts job page (PostOf state) (d ∷ due) (elements_given marks) → InTurn last (replied marks) page state (d ∷ due) (elements_given marks) → IsSent last page state (d ∷ due) →
    Gives texts job page state marks (taken texts.writes job d due)
gives_first texts job page state marks (One p) due last is within e s t i = gives_one texts job page state marks p due last e s t i
gives_first texts job page state marks (Text m dcs from) due last is within e s t i =
    let eq : page ≡ m = sym s.0 in
    subst (λ (k : ℕ). Gives texts job page state marks (taken texts.writes job (Text k dcs from) due)) eq
    (gives_text texts job page state marks dcs from due last is within e (refl, s.1, s.2)
    (subst (λ (k : ℕ). InTurn last (replied marks) page state (Text k dcs from ∷ due) (elements_given marks)) s.0 t))

post_when_given : (state : State) (before : List elements.Element) → PostOf state before → PostOf (state_when_given state) before
post_when_given Idle before p = tt
post_when_given AwaitDis before p = tt
post_when_given (AwaitCfr dis dcs) before p = p
post_when_given (AwaitMcf dis dcs) before p = p
post_when_given (Closing o) before p = tt

format_when_given : (job : JobValue) (page : ℕ) (state : State) → HasFormat job page state → HasFormat job page (state_when_given state)
format_when_given job page Idle p = tt
format_when_given job page AwaitDis p = tt
format_when_given job page (AwaitCfr dis dcs) p = p
format_when_given job page (AwaitMcf dis dcs) p = p
format_when_given job page (Closing o) p = tt

sent_when_given : (last : Option ℕ) (page : ℕ) (state : State) → IsSent last page state [] → IsSent last page (state_when_given state) []
sent_when_given last page Idle p = tt
sent_when_given last page AwaitDis p = tt
sent_when_given last page (AwaitCfr dis dcs) p = tt
sent_when_given last page (AwaitMcf dis dcs) p = p
sent_when_given last page (Closing o) p = tt

after_good : (texts : Texts) (job : JobValue) (a : CallerCore) (now : ℕ) (marks : List Mark) (p : Packet) (rest : List Due) → IsJob job → a.counts.page < length job.pages → HasFormat job a.counts.page a.state → IsDue (formats_of job) a → a.pages ≡ length job.pages →
    Gives texts job a.counts.page a.state marks (record { packet = p; rest = rest }) → Good texts job (after_giving a now p rest) (gave_all (elements_in p) marks)
after_good texts job a now marks p [] is w f s q g =
    record {
      last = g.last;
      kept = record { is_job = is; emits = g.emits; safe = post_when_given a.state (elements_given (gave_all (elements_in p) marks)) g.safe; within = w; format = format_when_given job a.counts.page a.state f; sent = sent_when_given g.last a.counts.page a.state g.sent; due = after_due (formats_of job) a now p [] s; same_pages = q };
      turn = turn_when_given g.last (replied (gave_all (elements_in p) marks)) a.counts.page a.state (elements_given (gave_all (elements_in p) marks)) g.turn;
    }
after_good texts job a now marks p (d ∷ rest) is w f s q g =
    record {
      last = g.last;
      kept = record { is_job = is; emits = g.emits; safe = g.safe; within = w; format = f; sent = g.sent; due = after_due (formats_of job) a now p (d ∷ rest) s; same_pages = q };
      turn = g.turn;
    }

first_good : (texts : Texts) (job : JobValue) (a : CallerCore) (now : ℕ) (marks : List Mark) (due : List Due) → IsJob job → a.waiting ≡ due → Good texts job a marks →
    Good texts job (given_first texts.writes job a now due).core (marks_given (given_first texts.writes job a now due).given marks)
first_good texts job a now marks [] is h g = g
first_good texts job a now marks (d ∷ due) is h g =
    let t : TakenPart = taken texts.writes job d due in
    let k : Rep texts job a marks g.last = g.kept in
    after_good texts job a now marks t.packet t.rest is k.within k.format k.due k.same_pages
    (gives_first texts job a.counts.page a.state marks d due g.last is k.within k.emits
    (subst (λ (w : List Due). SafeTo texts job a.counts.page (PostOf a.state) w (elements_given marks)) h k.safe)
    (subst (λ (w : List Due). InTurn g.last (replied marks) a.counts.page a.state w (elements_given marks)) h g.turn)
    (subst (λ (w : List Due). IsSent g.last a.counts.page a.state w) h k.sent))

pub paced_good : (texts : Texts) (job : JobValue) (a : CallerCore) (now : ℕ) (marks : List Mark) → IsJob job → Good texts job a marks →
    Good texts job (paced texts.writes job a now).core (marks_given (paced texts.writes job a now).given marks)
paced_good texts job a now marks is g = by (pace_allows a.pace.last now)
  where
    by : (t : Bool) → Good texts job (if◌then◌else◌ {A = TickResult} t (given_first texts.writes job a now a.waiting) (record { core = a; given = None })).core (marks_given (if◌then◌else◌ {A = TickResult} t (given_first texts.writes job a now a.waiting) (record { core = a; given = None })).given marks)
    by true = first_good texts job a now marks a.waiting is refl g
    by false = g

-- What a frame or a timer may bring about, where no packet waits.
abbrev AskOk : Option ℕ → ℕ → List elements.Element → State → Counts → Type 0
AskOk last page before (AwaitMcf dis dcs) c = (c.page ≡ page) × AfterText dcs before × (last ≡ Some page)
AskOk last page before state c = ⊥

record PageOk (job : JobValue) (last : Option ℕ) (r : Reply) (c : Counts) : Type 0 where
  within : c.page < length job.pages
  answered : IsAnswered last r c.page

abbrev MoveOk : Texts → JobValue → Option ℕ → Reply → ℕ → List elements.Element → State → Move → Type 0
MoveOk texts job last r page before state Stays = InTurn last r page state [] before
MoveOk texts job last r page before state (Trains dis dcs c) = IsFormatOf job c.page dcs × PageOk job last r c
MoveOk texts job last r page before state (Sends dis dcs c) = IsFormatOf job c.page dcs × PageOk job last r c × AfterText dcs before
MoveOk texts job last r page before state (Turns format t1 c) = PageOk job last r c
MoveOk texts job last r page before state (AsksAgain c) = AskOk last page before state c
MoveOk texts job last r page before state (Closes o c) = c.page < length job.pages
MoveOk texts job last r page before state HangsUp = Unit {0}

goodbye_safe : (texts : Texts) (job : JobValue) (page : ℕ) (before : List elements.Element) → SafeTo texts job page (λ e. Unit {0}) goodbye before
goodbye_safe texts job page before = frame_safe texts job page (λ e. Unit {0}) (written_plain plain.Dcn true) [] before (omega arith) (omega arith) tt

asks_good : (texts : Texts) (job : JobValue) (a : CallerCore) (marks : List Mark) (state : State) (c : Counts) (last : Option ℕ) → a.state ≡ state → Rep texts job a marks last →
    AskOk last a.counts.page (elements_given marks) state c → DueAt (formats_of job) c.page a.format →
    Good texts job (record { state = state; format = a.format; formats = a.formats; pages = a.pages; counts = c; waiting = command (command_after a.formats a.pages c.page); t1 = None; t4 = None; pace = a.pace; outcome = a.outcome }) marks
asks_good texts job a marks Idle c last h g k d = absurd k
asks_good texts job a marks AwaitDis c last h g k d = absurd k
asks_good texts job a marks (AwaitCfr dis dcs) c last h g k d = absurd k
asks_good texts job a marks (Closing o) c last h g k d = absurd k
asks_good texts job a marks (AwaitMcf dis dcs) c last h g k d =
    record {
      last = last;
      kept = record {
        is_job = g.is_job;
        emits = g.emits;
        safe = command_safe texts job c.page (is_last_page a.pages c.page) (turn_after a.formats c.page) dcs (elements_given marks) k.1;
        within = subst (λ (n : ℕ). n < length job.pages) (sym k.0) g.within;
        format = subst (λ (n : ℕ). IsFormatOf job n dcs) (sym k.0) (subst (HasFormat job a.counts.page) h g.format);
        sent = λ e. k.2 ∙ ap (λ (n : ℕ). Some n) (sym k.0);
        due = record { formats = g.due.formats; due = d };
        same_pages = g.same_pages;
      };
      turn = (command_asks (is_last_page a.pages c.page) (turn_after a.formats c.page) (elements_given marks), λ e. cc);
    }

moved_good : (texts : Texts) (job : JobValue) (a : CallerCore) (marks : List Mark) (m : Move) (last : Option ℕ) → Rep texts job a marks last → a.waiting ≡ [] →
    MoveOk texts job last (replied marks) a.counts.page (elements_given marks) a.state m → MoveDue (formats_of job) a.format m → Good texts job (moved a m) marks
moved_good texts job a marks Stays last g h k d =
    record { last = last; kept = g; turn = subst (λ (w : List Due). InTurn last (replied marks) a.counts.page a.state w (elements_given marks)) (sym h) k }
moved_good texts job a marks (Trains dis dcs c) last g h k d =
    record {
      last = last;
      kept = record { is_job = g.is_job; emits = g.emits; safe = training_safe texts job c.page dcs (elements_given marks); within = k.1.within; format = k.0; sent = tt; due = moved_due (formats_of job) a (Trains dis dcs c) g.due d; same_pages = g.same_pages };
      turn = (k.1.answered, training_keeps dcs (elements_given marks));
    }
moved_good texts job a marks (Sends dis dcs c) last g h k d =
    record {
      last = last;
      kept = record { is_job = g.is_job; emits = g.emits; safe = image_safe texts job c.page (is_last_page a.pages c.page) (turn_after a.formats c.page) dcs (elements_given marks) g.is_job k.2 k.1.within k.0; within = k.1.within; format = k.0; sent = λ e. cc; due = moved_due (formats_of job) a (Sends dis dcs c) g.due d; same_pages = g.same_pages };
      turn = (image_asks (is_last_page a.pages c.page) (turn_after a.formats c.page) c.page dcs (elements_given marks), λ e. k.1.answered);
    }
moved_good texts job a marks (AsksAgain c) last g h k d = asks_good texts job a marks a.state c last refl g k d
moved_good texts job a marks (Turns format t1 c) last g h k d =
    record {
      last = last;
      kept = record { is_job = g.is_job; emits = g.emits; safe = tt; within = k.within; format = tt; sent = tt; due = moved_due (formats_of job) a (Turns format t1 c) g.due d; same_pages = g.same_pages };
      turn = (k.answered, tt);
    }
moved_good texts job a marks (Closes o c) last g h k d =
    record {
      last = last;
      kept = record { is_job = g.is_job; emits = g.emits; safe = goodbye_safe texts job c.page (elements_given marks); within = k; format = tt; sent = tt; due = moved_due (formats_of job) a (Closes o c) g.due d; same_pages = g.same_pages };
      turn = refl;
    }
moved_good texts job a marks HangsUp last g h k d =
    record {
      last = last;
      kept = record { is_job = g.is_job; emits = g.emits; safe = tt; within = g.within; format = tt; sent = tt; due = moved_due (formats_of job) a HangsUp g.due d; same_pages = g.same_pages };
      turn = refl;
    }

-- the choice has the format
abbrev at_rate : Dis → Format → Option Rate → Result Dcs Refusal
at_rate dis format None = Err refusals.RatesSpent
at_rate dis format (Some rate) = Ok (dcs_at dis format rate)

at_rate_format : (dis : Dis) (format : Format) (o : Option Rate) (dcs : Dcs) → at_rate dis format o ≡ Ok dcs → format_of dcs ≡ format
at_rate_format dis format None dcs h = cc
at_rate_format dis format (Some rate) dcs h =
    ap format_in (sym h)
  where
    format_in : Result Dcs Refusal → Format
    format_in (Ok d) = format_of d
    format_in (Err e) = format

choice_format : (dis : Dis) (format : Format) (step : ℕ) (dcs : Dcs) → choice dis format step ≡ Ok dcs → format_of dcs ≡ format
choice_format dis format step dcs h =
    let rate : Option Rate = slice_get (rates_in dis.caps.0) step in
    by (not (has_bit 10 dis.caps.0)) (not (has_width format.width dis.caps.0)) (format.fine && not (has_bit 15 dis.caps.0)) (at_rate dis format rate) (at_rate_format dis format rate dcs) h
  where
    by : (x y z : Bool) (r : Result Dcs Refusal) → (r ≡ Ok dcs → format_of dcs ≡ format) →
        (if x then Err refusals.NotReceiver else if y then Err refusals.WidthLacking else if z then Err refusals.FineLacking else r) ≡ Ok dcs → format_of dcs ≡ format
    by true y z r f e = cc
    by false true z r f e = cc
    by false false true r f e = cc
    by false false false r f e = f e

by_choice_ok : (texts : Texts) (job : JobValue) (last : Option ℕ) (r : Reply) (page : ℕ) (before : List elements.Element) (state : State) (dis : Dis) (c : Counts) (chosen : Result Dcs Refusal) →
    ((dcs : Dcs) → chosen ≡ Ok dcs → IsFormatOf job c.page dcs) → PageOk job last r c → MoveOk texts job last r page before state (by_choice dis c chosen)
by_choice_ok texts job last r page before state dis c (Ok dcs) f k = (f dcs refl, k)
by_choice_ok texts job last r page before state dis c (Err e) f k = k.within

if_ok : (texts : Texts) (job : JobValue) (last : Option ℕ) (r : Reply) (page : ℕ) (before : List elements.Element) (state : State) (t : Bool) (m n : Move) →
    MoveOk texts job last r page before state m → MoveOk texts job last r page before state n → MoveOk texts job last r page before state (if t then m else n)
if_ok texts job last r page before state true m n x y = x
if_ok texts job last r page before state false m n x y = y

-- the next page, after MCF or RTP
next_ok : (job : JobValue) (pages : ℕ) (last : Option ℕ) (r : Reply) (c : Counts) → pages ≡ length job.pages → c.page < length job.pages → is_last_page pages c.page ≡ false → last ≡ Some c.page → r ≡ Answered true →
    PageOk job last r (next_page c)
next_ok job pages last r c h w l s a =
    record {
      within = let n : (c.page + 1 ≡ pages) → ⊥ = (λ e. differ (c.page + 1) pages l e) in omega (arith, n);
      answered = subst (λ (o : Option ℕ). IsAnswered o r (c.page + 1)) (sym s) (subst (λ (x : Reply). IsAnswered (Some c.page) x (c.page + 1)) (sym a) refl);
    }
  where
    differ : (m n : ℕ) → nat_eq m n ≡ false → m ≡ n → ⊥
    differ m n e q = grind (arith)

after_ack : (texts : Texts) (job : JobValue) (pages : ℕ) (last : Option ℕ) (r : Reply) (page : ℕ) (before : List elements.Element) (state : State) (c : Counts) (m : Move) →
    pages ≡ length job.pages → c.page < length job.pages → last ≡ Some c.page → r ≡ Answered true → (PageOk job last r (next_page c) → MoveOk texts job last r page before state m) →
    MoveOk texts job last r page before state (if is_last_page pages c.page then Closes outcomes.Delivered (one_delivered c) else m)
after_ack texts job pages last r page before state c m h w s a f = by (is_last_page pages c.page) refl
  where
    by : (t : Bool) → is_last_page pages c.page ≡ t → MoveOk texts job last r page before state (if t then Closes outcomes.Delivered (one_delivered c) else m)
    by true e = w
    by false e = f (next_ok job pages last r c h w e s a)

-- what a frame does to the reply
abbrev pub reply_by : Option Frame → Reply → Reply
reply_by (Some frames.Mcf) r = reply_heard true r
reply_by (Some frames.Rtp) r = reply_heard true r
reply_by (Some frames.Rtn) r = reply_heard false r
reply_by frame r = r

-- an answer stays one
heard_answered : (good : Bool) (last : Option ℕ) (r : Reply) (n : ℕ) → IsAnswered last r n → IsAnswered last (reply_heard good r) n
heard_answered good None r n h = h
heard_answered good (Some m) Unasked n h = absurd h
heard_answered good (Some m) Asked n h = absurd h
heard_answered good (Some m) (Answered g) n h = h

pub by_answered : (frame : Option Frame) (last : Option ℕ) (r : Reply) (n : ℕ) → IsAnswered last r n → IsAnswered last (reply_by frame r) n
by_answered (Some frames.Mcf) last r n h = heard_answered true last r n h
by_answered (Some frames.Rtp) last r n h = heard_answered true last r n h
by_answered (Some frames.Rtn) last r n h = heard_answered false last r n h
by_answered frame last r n h = h

-- where packets wait, a frame changes no turn
heard_turn : (frame : Option Frame) (last : Option ℕ) (r : Reply) (page : ℕ) (state : State) (d : Due) (due : List Due) (before : List elements.Element) →
    InTurn last r page state (d ∷ due) before → InTurn last (reply_by frame r) page state (d ∷ due) before
heard_turn frame last r page Idle d due before t = t
heard_turn frame last r page (Closing o) d due before t = t
heard_turn frame last r page AwaitDis d due before t = (by_answered frame last r page t.0, t.1)
heard_turn frame last r page (AwaitCfr dis dcs) d due before t = (by_answered frame last r page t.0, t.1)
heard_turn frame last r page (AwaitMcf dis dcs) d due before t = (t.0, λ e. by_answered frame last r page (t.1 e))

-- what is known where no packet waits
record Resting (texts : Texts) (job : JobValue) (last : Option ℕ) (before : List elements.Element) (state : State) (c : Counts) : Type 0 where
  post : PostOf state before
  format : HasFormat job c.page state
  sent : IsSent last c.page state []
  within : c.page < length job.pages

tries_ok : (texts : Texts) (job : JobValue) (last : Option ℕ) (r : Reply) (page : ℕ) (before : List elements.Element) (state : State) (dis : Dis) (dcs : Dcs) (c : Counts) →
    IsFormatOf job c.page dcs → PageOk job last r c → MoveOk texts job last r page before state (tries_again dis dcs c)
tries_ok texts job last r page before state dis dcs c f k =
    if_ok texts job last r page before state (nat_lt c.tries 3) (Trains dis dcs (next_try c)) (Closes outcomes.NoReply c) (f, record { within = k.within; answered = k.answered }) k.within

refusal_ok : (texts : Texts) (job : JobValue) (last : Option ℕ) (r : Reply) (page : ℕ) (before : List elements.Element) (state : State) (dis : Dis) (dcs : Dcs) (c : Counts) →
    IsFormatOf job c.page dcs → PageOk job last r c → MoveOk texts job last r page before state (after_refusal dis dcs c)
refusal_ok texts job last r page before state dis dcs c f k =
    if_ok texts job last r page before state (nat_lt c.refused 2) (Trains dis dcs (one_refused c)) (Closes outcomes.PageRefused c) (f, record { within = k.within; answered = k.answered }) k.within

chosen_ok : (texts : Texts) (job : JobValue) (last : Option ℕ) (r : Reply) (page : ℕ) (before : List elements.Element) (state : State) (format : Format) (dis : Dis) (step : ℕ) (c : Counts) →
    DueAt (formats_of job) c.page format → PageOk job last r c → MoveOk texts job last r page before state (by_choice dis c (choice dis format step))
chosen_ok texts job last r page before state format dis step c f k =
    by_choice_ok texts job last r page before state dis c (choice dis format step) (λ dcs e. subst (DueAt (formats_of job) c.page) (sym (choice_format dis format step dcs e)) f) k

-- after EOM the next exchange begins
turns_ok : (texts : Texts) (job : JobValue) (last : Option ℕ) (r : Reply) (page : ℕ) (before : List elements.Element) (state : State) (now : ℕ) (c : Counts) (m : Move) (t : Option Format) →
    turn_after (formats_of job) c.page ≡ t → PageOk job last r (next_page c) → (turn_after (formats_of job) c.page ≡ None → MoveOk texts job last r page before state m) → MoveOk texts job last r page before state (turns_or now t c m)
turns_ok texts job last r page before state now c m (Some format) e k f = record { within = k.within; answered = k.answered }
turns_ok texts job last r page before state now c m None e k f = f e

-- in AwaitMcf the reply is Asked, so that MCF, RTP and RTN answer
frame_ok : (texts : Texts) (job : JobValue) (now : ℕ) (pages : ℕ) (format : Format) (last : Option ℕ) (r : Reply) (before : List elements.Element) (state : State) (c : Counts) (frame : Option Frame) →
    pages ≡ length job.pages → DueAt (formats_of job) c.page format → Resting texts job last before state c → InTurn last r c.page state [] before →
    MoveOk texts job last (reply_by frame r) c.page before state (on_frame now format (turn_after (formats_of job) c.page) pages state c frame)
frame_ok texts job now pages format last r before AwaitDis c (Some (frames.Dis dis)) h f s t =
    chosen_ok texts job last r c.page before AwaitDis format dis c.step (first_try c) f (record { within = s.within; answered = t.0 })
frame_ok texts job now pages format last r before AwaitDis c (Some frames.Dcn) h f s t = tt
frame_ok texts job now pages format last r before AwaitDis c frame h f s t = (by_answered frame last r c.page t.0, tt)
frame_ok texts job now pages format last r before (AwaitCfr dis dcs) c (Some frames.Cfr) h f s t = (s.format, record { within = s.within; answered = t.0 }, s.post)
frame_ok texts job now pages format last r before (AwaitCfr dis dcs) c (Some frames.Ftt) h f s t =
    chosen_ok texts job last r c.page before (AwaitCfr dis dcs) format dis (c.step + 1) (next_step c) f (record { within = s.within; answered = t.0 })
frame_ok texts job now pages format last r before (AwaitCfr dis dcs) c (Some (frames.Dis other)) h f s t =
    tries_ok texts job last r c.page before (AwaitCfr dis dcs) dis dcs c s.format (record { within = s.within; answered = t.0 })
frame_ok texts job now pages format last r before (AwaitCfr dis dcs) c (Some frames.Dcn) h f s t = tt
frame_ok texts job now pages format last r before (AwaitCfr dis dcs) c frame h f s t = (by_answered frame last r c.page t.0, tt)
frame_ok texts job now pages format last r before (AwaitMcf dis dcs) c (Some frames.Mcf) h f s t =
    after_ack texts job pages last (reply_heard true r) c.page before (AwaitMcf dis dcs) c (turns_or now (turn_after (formats_of job) c.page) c (Sends dis dcs (next_page c))) h s.within (s.sent refl) (ap (reply_heard true) t)
    (λ k. turns_ok texts job last (reply_heard true r) c.page before (AwaitMcf dis dcs) now c (Sends dis dcs (next_page c)) (turn_after (formats_of job) c.page) refl k (λ e. (next_due (formats_of job) (format_of dcs) c.page s.format e, k, s.post)))
frame_ok texts job now pages format last r before (AwaitMcf dis dcs) c (Some frames.Rtp) h f s t =
    after_ack texts job pages last (reply_heard true r) c.page before (AwaitMcf dis dcs) c (turns_or now (turn_after (formats_of job) c.page) c (Trains dis dcs (next_page c))) h s.within (s.sent refl) (ap (reply_heard true) t)
    (λ k. turns_ok texts job last (reply_heard true r) c.page before (AwaitMcf dis dcs) now c (Trains dis dcs (next_page c)) (turn_after (formats_of job) c.page) refl k (λ e. (next_due (formats_of job) (format_of dcs) c.page s.format e, k)))
frame_ok texts job now pages format last r before (AwaitMcf dis dcs) c (Some frames.Rtn) h f s t =
    refusal_ok texts job last (reply_heard false r) c.page before (AwaitMcf dis dcs) dis dcs c s.format
    (record {
      within = s.within;
      answered = subst (λ (o : Option ℕ). IsAnswered o (reply_heard false r) c.page) (sym (s.sent refl)) (subst (λ (x : Reply). IsAnswered (Some c.page) (reply_heard false x) c.page) (sym t) refl);
    })
frame_ok texts job now pages format last r before (AwaitMcf dis dcs) c (Some frames.Dcn) h f s t = tt
frame_ok texts job now pages format last r before (AwaitMcf dis dcs) c frame h f s t = t
frame_ok texts job now pages format last r before state c frame h f s t = refl

timer_ok : (texts : Texts) (job : JobValue) (t1_due t4_due : Bool) (last : Option ℕ) (r : Reply) (before : List elements.Element) (state : State) (c : Counts) →
    Resting texts job last before state c → InTurn last r c.page state [] before → MoveOk texts job last r c.page before state (on_timers t1_due t4_due state c)
timer_ok texts job t1_due t4_due last r before Idle c s t = t
timer_ok texts job t1_due t4_due last r before (Closing o) c s t = t
timer_ok texts job t1_due t4_due last r before AwaitDis c s t =
    if_ok texts job last r c.page before AwaitDis t1_due (gives_up_dis c) Stays s.within t
timer_ok texts job t1_due t4_due last r before (AwaitCfr dis dcs) c s t =
    if_ok texts job last r c.page before (AwaitCfr dis dcs) t4_due (tries_again dis dcs c) Stays
    (tries_ok texts job last r c.page before (AwaitCfr dis dcs) dis dcs c s.format (record { within = s.within; answered = t.0 })) t
timer_ok texts job t1_due t4_due last r before (AwaitMcf dis dcs) c s t =
    if_ok texts job last r c.page before (AwaitMcf dis dcs) t4_due (asks_again c) Stays
    (if_ok texts job last r c.page before (AwaitMcf dis dcs) (nat_lt c.tries 3) (AsksAgain (next_try c)) (Closes outcomes.NoReply c)
    (refl, s.post, s.sent refl) s.within) t

resting : (texts : Texts) (job : JobValue) (a : CallerCore) (marks : List Mark) (last : Option ℕ) → a.waiting ≡ [] → Rep texts job a marks last → Resting texts job last (elements_given marks) a.state a.counts
resting texts job a marks last h g =
    record {
      post = subst (λ (w : List Due). SafeTo texts job a.counts.page (PostOf a.state) w (elements_given marks)) h g.safe;
      format = g.format;
      sent = subst (λ (w : List Due). IsSent last a.counts.page a.state w) h g.sent;
      within = g.within;
    }

pub timed_good : (texts : Texts) (job : JobValue) (a : CallerCore) (now : ℕ) (marks : List Mark) → Good texts job a marks → Good texts job (timed a now) marks
timed_good texts job a now marks g = by a.waiting refl
  where
    by : (w : List Due) → a.waiting ≡ w → Good texts job (moved a (if waits w then Stays else on_timers (is_due a.t1 now) (is_due a.t4 now) a.state a.counts)) marks
    by [] h =
        moved_good texts job a marks (on_timers (is_due a.t1 now) (is_due a.t4 now) a.state a.counts) g.last g.kept h
        (timer_ok texts job (is_due a.t1 now) (is_due a.t4 now) g.last (replied marks) (elements_given marks) a.state a.counts (resting texts job a marks g.last h g.kept)
        (subst (λ (w : List Due). InTurn g.last (replied marks) a.counts.page a.state w (elements_given marks)) h g.turn))
        (timers_due (formats_of job) a.format (is_due a.t1 now) (is_due a.t4 now) a.state a.counts g.kept.due.due)
    by (d ∷ due) h = g

-- a frame that comes, among the marks
pub replied_by : (frame : Option Frame) (marks : List Mark) → replied (acknowledged_by frame marks) ≡ reply_by frame (replied marks)
replied_by (Some frames.Mcf) marks = refl
replied_by (Some frames.Rtp) marks = refl
replied_by (Some frames.Rtn) marks = refl
replied_by frame marks = refl

pub emits_ack : (job : JobValue) (frame : Option Frame) (marks : List Mark) (last : Option ℕ) → Emits job marks last → Emits job (acknowledged_by frame marks) last
emits_ack job (Some frames.Mcf) marks last e = e
emits_ack job (Some frames.Rtp) marks last e = e
emits_ack job (Some frames.Rtn) marks last e = e
emits_ack job frame marks last e = e

pub elements_ack : (frame : Option Frame) (marks : List Mark) → elements_given (acknowledged_by frame marks) ≡ elements_given marks
elements_ack (Some frames.Mcf) marks = refl
elements_ack (Some frames.Rtp) marks = refl
elements_ack (Some frames.Rtn) marks = refl
elements_ack frame marks = refl

frame_good : (texts : Texts) (job : JobValue) (a : CallerCore) (now : ℕ) (frame : Option Frame) (marks : List Mark) → Good texts job a marks →
    Good texts job (moved a (if waits a.waiting then Stays else on_frame now a.format (turn_after a.formats a.counts.page) a.pages a.state a.counts frame)) (acknowledged_by frame marks)
frame_good texts job a now frame marks g =
    let k : Rep texts job a marks g.last = g.kept in
    by (acknowledged_by frame marks) (elements_ack frame marks) (replied_by frame marks)
    (record {
      is_job = k.is_job;
      emits = emits_ack job frame marks g.last k.emits;
      safe = subst (SafeTo texts job a.counts.page (PostOf a.state) a.waiting) (sym (elements_ack frame marks)) k.safe;
      within = k.within;
      format = k.format;
      sent = k.sent;
      due = k.due;
      same_pages = k.same_pages;
    }) a.waiting refl
  where
    by : (new : List Mark) → elements_given new ≡ elements_given marks → replied new ≡ reply_by frame (replied marks) → Rep texts job a new g.last → (w : List Due) → a.waiting ≡ w →
        Good texts job (moved a (if waits w then Stays else on_frame now a.format (turn_after a.formats a.counts.page) a.pages a.state a.counts frame)) new
    by new es rs k [] h =
        moved_good texts job a new (on_frame now a.format (turn_after a.formats a.counts.page) a.pages a.state a.counts frame) g.last k h
        (subst (λ (x : Reply). MoveOk texts job g.last x a.counts.page (elements_given new) a.state (on_frame now a.format (turn_after a.formats a.counts.page) a.pages a.state a.counts frame)) (sym rs)
        (subst (λ (fs : List Format). MoveOk texts job g.last (reply_by frame (replied marks)) a.counts.page (elements_given new) a.state (on_frame now a.format (turn_after fs a.counts.page) a.pages a.state a.counts frame)) (sym k.due.formats)
        (frame_ok texts job now a.pages a.format g.last (replied marks) (elements_given new) a.state a.counts frame k.same_pages k.due.due (resting texts job a new g.last h k)
        (subst (λ (before : List elements.Element). InTurn g.last (replied marks) a.counts.page a.state [] before) (sym es)
        (subst (λ (w : List Due). InTurn g.last (replied marks) a.counts.page a.state w (elements_given marks)) h g.turn)))))
        (subst (λ (fs : List Format). MoveDue (formats_of job) a.format (on_frame now a.format (turn_after fs a.counts.page) a.pages a.state a.counts frame)) (sym k.due.formats)
        (frame_due (formats_of job) now a.format a.pages a.state a.counts frame k.due.due))
    by new es rs k (d ∷ due) h =
        record {
          last = g.last;
          kept = k;
          turn = subst (λ (w : List Due). InTurn g.last (replied new) a.counts.page a.state w (elements_given new)) (sym h)
              (subst (λ (x : Reply). InTurn g.last x a.counts.page a.state (d ∷ due) (elements_given new)) (sym rs)
              (subst (λ (before : List elements.Element). InTurn g.last (reply_by frame (replied marks)) a.counts.page a.state (d ∷ due) before) (sym es)
              (heard_turn frame g.last (replied marks) a.counts.page a.state d due (elements_given marks)
              (subst (λ (w : List Due). InTurn g.last (replied marks) a.counts.page a.state w (elements_given marks)) h g.turn))));
        }

pub comes_good : (texts : Texts) (job : JobValue) (a : CallerCore) (piece : pieces.Piece) (now : ℕ) (marks : List Mark) → Good texts job a marks → Good texts job (came a piece now) (marks_heard piece marks)
comes_good texts job a (pieces.Frame octets) now marks g = frame_good texts job a now (frame_of octets) marks g
comes_good texts job a (pieces.Start k) now marks g = g
comes_good texts job a (pieces.Octets os) now marks g = g
comes_good texts job a (pieces.End w) now marks g = g
comes_good texts job a pieces.Gap now marks g = g

pub start_good : (texts : Texts) (job : JobValue) (old : List Mark) (core : CallerCore) (start : ℕ) → IsJob job → Good texts job (started core job start) (Begins ∷ old)
start_good texts job old core start is =
    record {
      last = None;
      kept = record {
        is_job = is;
        emits = tt;
        safe = signal_safe texts job 0 (λ e. Unit {0}) 1 [] (elements_given old) (omega arith) tt;
        within = is.some;
        format = tt;
        sent = tt;
        due = start_due core job start is;
        same_pages = refl;
      };
      turn = (refl, signal_keeps 1 [] (elements_given old) (omega arith) tt);
    }

pub events_good : (texts : Texts) (job : JobValue) (old : List Mark) (a : CallerCore) (events : List CallEvent) → IsJob job → Good texts job a (Begins ∷ old) → Good texts job (after_events texts.writes job a events) (marks_after texts.writes job old a events)
events_good texts job old a [] is g = g
events_good texts job old a (Comes piece now ∷ before) is g = comes_good texts job (after_events texts.writes job a before) piece now (marks_after texts.writes job old a before) (events_good texts job old a before is g)
events_good texts job old a (Ticks now ∷ before) is g =
    let core : CallerCore = after_events texts.writes job a before in
    paced_good texts job (timed core now) now (marks_after texts.writes job old a before) is (timed_good texts job core now (marks_after texts.writes job old a before) (events_good texts job old a before is g))

pub emits_the_pages : EmitsThePages
emits_the_pages writes job old core start events w is =
    let texts : Texts = record { writes = writes; are = w } in
    let a : CallerCore = started core job start in
    let g : Good texts job (after_events writes job a events) (marks_after writes job old a events) = events_good texts job old a events is (start_good texts job old core start is) in
    (g.last, g.kept.emits)
