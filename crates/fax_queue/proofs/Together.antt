-- The jobs of many lines end at once.
use Rattle.std.proofs.Common.{◌≡◌, ◌≢◌, ◌⊎◌, ◌∙◌, ◌+◌, ℕ, zero, suc, ◌<◌, ◌≤◌, inl, inr, Bool, true, false, cond, nat_eq, List, [], ◌∷◌, ◌++◌, length, drop, map, take, get_or, Option, Some, None, slice_get, slice_index_or, arith, refl, sym, ap, subst, append-nil, append_assoc}
use Rattle.std.specs.Prelude.{slice_set}
use Rattle.std.specs.List.{AllPairs}
use Rattle.std.proofs.lemmas.Bool.{eq-eqb, eqb-false, eqb-true, ne_eqb}
use Rattle.fax_runcodes.specs.declared.Width.TheVariants.{W1728}
use Rattle.fax_jobs.specs.declared.outcome.Outcome.TheVariants.{Delivered}
use Rattle.fax_jobs.specs.declared.report.Report.{Report}
use Rattle.fax_line.specs.StoredRuns.{reports_of}
use Rattle.fax_line.specs.Settling.{RiseByLine}
use Rattle.fax_line.specs.declared.settling.LineReport.{LineReport}
use Rattle.fax_line.proofs.Telling.{reports_append}
use Rattle.fax_spool.specs.RecordOctets.{EndedValue, PageValue}
use Rattle.fax_spool.specs.Calls.{Accepts, Does, Refuses, Rests}
use Rattle.fax_spool.specs.Calls.{Ends as EndsCall}
use Rattle.fax_spool.specs.Waits.{PageName, name_of, without, without_all}
use Rattle.fax_spool.specs.declared.spool.Spool.{Spool}
use Rattle.fax_queue.specs.declared.ending.PlannedEnd.{PlannedEnd}
use Rattle.fax_queue.specs.declared.queue.EndedJob.{EndedJob}
use Rattle.fax_queue.specs.declared.queue.QueuedPage.{QueuedPage}
use Rattle.fax_queue.specs.Storing.{Agree, AllAreAmong, HaveOwnNames, IsOther}
use Rattle.fax_queue.specs.Jobs.{IsTidy, WaitSo}
use Rattle.fax_queue.specs.Queues.{AreAmong, IsEndOf, QueueValue, left_by, lines_of}
use Rattle.fax_queue.specs.Together.{AreEndsOf, AreOfOthers, EndsOne, EndsTogether, HasRecord, IsNotedSo, IsPlanned, IsTaken, MayPutEnds, NoneIsOf, Planned, Plans, StaysUnnoted, unsure_all, unsure_at}
use Rattle.fax_queue.proofs.PastPuts.{line_at, set_line}
use Rattle.fax_queue.proofs.Pasts.{wait_map}
use Rattle.fax_queue.proofs.Queueing.{others_stay, set_at}
use Rattle.fax_queue.proofs.Refusing.{rest_still}
use Rattle.fax_queue.proofs.Slots.{set_other}
use Rattle.fax_queue.proofs.Waits.{none_is_forgotten}

same_some : {X : Type 0} (a b : X) → Some a ≡ Some b → a ≡ b
same_some a b same = cc

nothing_more : {X : Type 0} (xs : List X) (x : X) → xs ++ x ∷ [] ≡ [] → ⊥
nothing_more [] x e = cc
nothing_more (y ∷ xs) x e = cc

none_some : {X : Type 0} (x : X) (o : Option X) → o ≡ None → o ≡ Some x → ⊥
none_some x o none some = let no : None ≡ Some x = sym none ∙ some in cc

-- what stands where a list has none
abbrev pub no_report : LineReport
no_report = record { line = 0; report = record { call = 0; format = record { width = W1728; fine = false }; pages = 0; delivered = 0; outcome = Delivered } }

abbrev pub no_end : PlannedEnd
no_end = record { line = 0; report = no_report.report; ended = record { life = 0; call = 0; first = 0; pages = 0; stored = 0 } }

pub none_there : (queues : List QueueValue) (i : ℕ) → length queues ≤ i → slice_get queues i ≡ None
none_there [] i far = refl
none_there (s ∷ queues) zero far = absurd (omega (arith, far))
none_there (s ∷ queues) (suc i) far = none_there queues i (omega (arith, far))

-- ---- reports in the order of their lines

pub reports_none : (place : ℕ) (jobs : List LineReport) → ((k : ℕ) (d : LineReport) → k < length jobs → (get_or jobs k d).line < place) → reports_of place jobs ≡ []
reports_none place [] below = refl
reports_none place (r ∷ jobs) below =
    ap (λ (b : Bool). cond b (r.report ∷ reports_of place jobs) (reports_of place jobs)) (ne_eqb r.line place (λ (same : r.line ≡ place). let less : r.line < place = below 0 r (omega arith) in absurd (omega (arith, same, less))))
    ∙ reports_none place jobs (λ k d low. below (suc k) d (omega (arith, low)))

get_take : (jobs : List LineReport) (n i : ℕ) (d : LineReport) → i < n → n ≤ length jobs → get_or (take n jobs) i d ≡ get_or jobs i d
get_take [] n i d low high = absurd (omega (arith, low, high))
get_take (r ∷ jobs) zero i d low high = absurd (omega (arith, low))
get_take (r ∷ jobs) (suc n) zero d low high = refl
get_take (r ∷ jobs) (suc n) (suc i) d low high = get_take jobs n i d (omega (arith, low)) (omega (arith, high))

length_take : (jobs : List LineReport) (n : ℕ) → n ≤ length jobs → length (take n jobs) ≡ n
length_take [] zero high = refl
length_take [] (suc n) high = absurd (omega (arith, high))
length_take (r ∷ jobs) zero high = refl
length_take (r ∷ jobs) (suc n) high = ap suc (length_take jobs n (omega (arith, high)))

-- the next one is of a line of which none was
pub is_fresh : (jobs : List LineReport) (n : ℕ) (one : LineReport) → RiseByLine jobs → n < length jobs → get_or jobs n one ≡ one → reports_of one.line (take n jobs) ≡ []
is_fresh jobs n one rise low got =
    reports_none one.line (take n jobs) (λ k d less.
    let many : length (take n jobs) ≡ n = length_take jobs n (omega (arith, low)) in
    let under : k < n = omega (arith, less, many) in
    let earlier : (get_or jobs k one).line < (get_or jobs n one).line = rise k n one under low in
    let here : (get_or jobs k one).line < one.line = subst (λ (r : LineReport). (get_or jobs k one).line < r.line) got earlier in
    let same : get_or (take n jobs) k d ≡ get_or jobs k one = get_take jobs n k d under (omega (arith, low)) ∙ other_default jobs k d one (omega (arith, under, low)) in
    subst (λ (r : LineReport). r.line < one.line) (sym same) here)
  where
    other_default : (jobs : List LineReport) (k : ℕ) (d e : LineReport) → k < length jobs → get_or jobs k d ≡ get_or jobs k e
    other_default [] k d e low = absurd (omega (arith, low))
    other_default (r ∷ jobs) zero d e low = refl
    other_default (r ∷ jobs) (suc k) d e low = other_default jobs k d e (omega (arith, low))

-- ---- what is planned

none_append : (place : ℕ) (xs ys : List PlannedEnd) → NoneIsOf place xs → NoneIsOf place ys → NoneIsOf place (xs ++ ys)
none_append place [] ys first second = second
none_append place (x ∷ xs) ys first second = (first.0, none_append place xs ys first.1 second)

pub planned_none : (olds : List QueueValue) (jobs : List LineReport) (plan : List PlannedEnd) → jobs ≡ [] → plan ≡ [] → Planned jobs olds olds plan
planned_none olds jobs plan no_job none =
    subst (λ (j : List LineReport). Planned j olds olds plan) (sym no_job)
    (subst (λ (p : List PlannedEnd). Planned [] olds olds p) (sym none) (record {
      lines = refl;
      others = λ place is. (refl, tt);
      each = λ place report old new is there now. absurd (let no : [] ≡ report ∷ [] = is in cc);
    }))

module _ (olds queues : List QueueValue) (jobs : List LineReport) (plan : List PlannedEnd) (one : LineReport) (fresh : reports_of one.line jobs ≡ []) (was : Planned jobs olds queues plan) where
  at_other : (place : ℕ) → one.line ≢ place → reports_of place (jobs ++ one ∷ []) ≡ reports_of place jobs
  at_other place unlike =
      reports_append place jobs (one ∷ []) ∙ ap (λ (b : Bool). reports_of place jobs ++ cond b (one.report ∷ []) []) (ne_eqb one.line place unlike) ∙ append-nil (reports_of place jobs)

  at_own : reports_of one.line (jobs ++ one ∷ []) ≡ one.report ∷ []
  at_own =
      reports_append one.line jobs (one ∷ []) ∙ ap (λ (b : Bool). reports_of one.line jobs ++ cond b (one.report ∷ []) []) (eq-eqb one.line one.line refl)
      ∙ ap (λ (l : List Report). l ++ one.report ∷ []) fresh

  own_some : (place : ℕ) → one.line ≡ place → reports_of place (jobs ++ one ∷ []) ≡ [] → ⊥
  own_some place same none = let no : one.report ∷ [] ≡ [] = sym at_own ∙ ap (λ (n : ℕ). reports_of n (jobs ++ one ∷ [])) same ∙ none in cc

  -- there is no such line
  pub planned_beyond : slice_get olds one.line ≡ None → Planned (jobs ++ one ∷ []) olds queues plan
  planned_beyond beyond = record {
    lines = was.lines;
    others = λ place none. others_by place none (nat_eq one.line place) refl;
    each = λ place report old new is there now. each_by place report old new is there now (nat_eq one.line place) refl;
  }
    where
      others_by : (place : ℕ) → reports_of place (jobs ++ one ∷ []) ≡ [] → (b : Bool) → nat_eq one.line place ≡ b → (slice_get queues place ≡ slice_get olds place) × NoneIsOf place plan
      others_by place none true on = absurd (own_some place (eqb-true one.line place on) none)
      others_by place none false off = was.others place (sym (at_other place (eqb-false one.line place off)) ∙ none)

      each_by : (place : ℕ) (report : Report) (old new : QueueValue) → reports_of place (jobs ++ one ∷ []) ≡ report ∷ [] → slice_get olds place ≡ Some old → slice_get queues place ≡ Some new
          → (b : Bool) → nat_eq one.line place ≡ b → IsPlanned report place plan old new ⊎ (StaysUnnoted report.pages old new × NoneIsOf place plan)
      each_by place report old new is there now true on =
          absurd (none_some old (slice_get olds place) (ap (λ (n : ℕ). slice_get olds n) (sym (eqb-true one.line place on)) ∙ beyond) there)
      each_by place report old new is there now false off = was.each place report old new (sym (at_other place (eqb-false one.line place off)) ∙ is) there now

  -- its queue
  module _ (q new_q : QueueValue) (more : List PlannedEnd) (low : one.line < length queues) (at : slice_get queues one.line ≡ Some q) (plans : Plans one q new_q plan more) where
    line_still : (Plans one q new_q plan more) → new_q.line ≡ q.line
    line_still (inl is) = is.1.line_is
    line_still (inr is) = is.0.line_is

    none_still : (place : ℕ) → one.line ≢ place → NoneIsOf place plan → Plans one q new_q plan more → NoneIsOf place more
    none_still place unlike none (inl is) = subst (λ (l : List PlannedEnd). NoneIsOf place l) (sym is.2) (none_append place plan (record { line = one.line; report = one.report; ended = is.0 } ∷ []) none (unlike, tt))
    none_still place unlike none (inr is) = subst (λ (l : List PlannedEnd). NoneIsOf place l) (sym is.1) none

    planned_still : (place : ℕ) (report : Report) (old new : QueueValue) → one.line ≢ place → IsPlanned report place plan old new → Plans one q new_q plan more → IsPlanned report place more old new
    planned_still place report old new unlike planned (inl is) = record {
      ended = planned.ended;
      before = planned.before;
      after = planned.after ++ record { line = one.line; report = one.report; ended = is.0 } ∷ [];
      is = is.2 ∙ ap (λ (l : List PlannedEnd). l ++ record { line = one.line; report = one.report; ended = is.0 } ∷ []) planned.is
          ∙ append_assoc planned.before (record { line = place; report = report; ended = planned.ended } ∷ planned.after) (record { line = one.line; report = one.report; ended = is.0 } ∷ []);
      alone = (planned.alone.0, none_append place planned.after (record { line = one.line; report = one.report; ended = is.0 } ∷ []) planned.alone.1 (unlike, tt));
      taken = planned.taken;
    }
    planned_still place report old new unlike planned (inr is) = subst (λ (l : List PlannedEnd). IsPlanned report place l old new) (sym is.1) planned

    own_planned : NoneIsOf one.line plan → Plans one q new_q plan more → IsPlanned one.report one.line more q new_q ⊎ (StaysUnnoted one.report.pages q new_q × NoneIsOf one.line more)
    own_planned none (inl is) = inl (record { ended = is.0; before = plan; after = []; is = is.2; alone = (none, tt); taken = is.1 })
    own_planned none (inr is) = inr (is.0, subst (λ (l : List PlannedEnd). NoneIsOf one.line l) (sym is.1) none)

    pub planned_more : Planned (jobs ++ one ∷ []) olds (slice_set queues one.line new_q) more
    planned_more = record {
      lines = set_line queues one.line q new_q at (line_still plans) ∙ was.lines;
      others = λ place none. others_by place none (nat_eq one.line place) refl;
      each = λ place report old new is there now. each_by place report old new is there now (nat_eq one.line place) refl;
    }
      where
        others_by : (place : ℕ) → reports_of place (jobs ++ one ∷ []) ≡ [] → (b : Bool) → nat_eq one.line place ≡ b → (slice_get (slice_set queues one.line new_q) place ≡ slice_get olds place) × NoneIsOf place more
        others_by place none true on = absurd (own_some place (eqb-true one.line place on) none)
        others_by place none false off =
            let unlike : one.line ≢ place = eqb-false one.line place off in
            let before = was.others place (sym (at_other place unlike) ∙ none) in
            (set_other queues one.line place new_q unlike ∙ before.0, none_still place unlike before.1 plans)

        each_by : (place : ℕ) (report : Report) (old new : QueueValue) → reports_of place (jobs ++ one ∷ []) ≡ report ∷ [] → slice_get olds place ≡ Some old → slice_get (slice_set queues one.line new_q) place ≡ Some new
            → (b : Bool) → nat_eq one.line place ≡ b → IsPlanned report place more old new ⊎ (StaysUnnoted report.pages old new × NoneIsOf place more)
        each_by place report old new is there now true on =
            let same : one.line ≡ place = eqb-true one.line place on in
            let report_is : one.report ≡ report = let l : one.report ∷ [] ≡ report ∷ [] = sym at_own ∙ ap (λ (n : ℕ). reports_of n (jobs ++ one ∷ [])) same ∙ is in cc in
            let fresh_here = was.others one.line fresh in
            let old_is : q ≡ old = same_some q old (sym at ∙ fresh_here.0 ∙ ap (λ (n : ℕ). slice_get olds n) same ∙ there) in
            let new_is : new_q ≡ new = same_some new_q new (sym (set_at queues one.line new_q low) ∙ ap (λ (n : ℕ). slice_get (slice_set queues one.line new_q) n) same ∙ now) in
            subst (λ (n : ℕ). IsPlanned report n more old new ⊎ (StaysUnnoted report.pages old new × NoneIsOf n more)) same
            (subst (λ (r : Report). IsPlanned r one.line more old new ⊎ (StaysUnnoted r.pages old new × NoneIsOf one.line more)) report_is
            (subst (λ (o : QueueValue). IsPlanned one.report one.line more o new ⊎ (StaysUnnoted one.report.pages o new × NoneIsOf one.line more)) old_is
            (subst (λ (n : QueueValue). IsPlanned one.report one.line more q n ⊎ (StaysUnnoted one.report.pages q n × NoneIsOf one.line more)) new_is (own_planned fresh_here.1 plans))))
        each_by place report old new is there now false off =
            let unlike : one.line ≢ place = eqb-false one.line place off in
            elim (was.each place report old new (sym (at_other place unlike) ∙ is) there (sym (set_other queues one.line place new_q unlike) ∙ now)) [
              | inl planned ↦ inl (planned_still place report old new unlike planned plans)
              | inr stays ↦ inr (stays.0, none_still place unlike stays.1 plans)
            ]

-- ---- their records

pub ends_push : (names : List (List ℕ)) (plan : List PlannedEnd) (kept : List EndedValue) (one : PlannedEnd) (ended : EndedValue) → AreEndsOf names plan kept → AreEndsOf names (one ∷ []) (ended ∷ [])
    → AreEndsOf names (plan ++ one ∷ []) (kept ++ ended ∷ [])
ends_push names [] [] one ended are is = is
ends_push names [] (e ∷ kept) one ended are is = absurd are
ends_push names (p ∷ plan) [] one ended are is = absurd are
ends_push names (p ∷ plan) (e ∷ kept) one ended are is = (are.0, ends_push names plan kept one ended are.1 is)

others_of : (names : List (List ℕ)) (place : ℕ) (plan : List PlannedEnd) (kept : List EndedValue) → AreEndsOf names plan kept → NoneIsOf place plan → AreOfOthers names place kept
others_of names place [] [] are none = tt
others_of names place [] (e ∷ kept) are none = absurd are
others_of names place (p ∷ plan) [] are none = absurd are
others_of names place (p ∷ plan) (e ∷ kept) are none =
    ((p.line, none.0, are.0.1 ∙ ap (λ (l : List ℕ). Some l) (sym are.0.2.line_is)), others_of names place plan kept are.1 none.1)

record Split (names : List (List ℕ)) (place : ℕ) (ended : EndedJob) (kept : List EndedValue) : Type 0 where
  value : EndedValue
  before : List EndedValue
  after : List EndedValue
  is : kept ≡ before ++ value ∷ after
  alone : AreOfOthers names place before × AreOfOthers names place after
  name : List ℕ
  named : slice_get names place ≡ Some name
  is_end : IsEndOf ended name value

split_at : (names : List (List ℕ)) (report : Report) (place : ℕ) (ended : EndedJob) (before after : List PlannedEnd) (kept : List EndedValue) → AreEndsOf names (before ++ record { line = place; report = report; ended = ended } ∷ after) kept
    → NoneIsOf place before → NoneIsOf place after → Split names place ended kept
split_at names report place ended [] after [] are first second = absurd are
split_at names report place ended [] after (e ∷ kept) are first second = record {
  value = e;
  before = [];
  after = kept;
  is = refl;
  alone = (tt, others_of names place after kept are.1 second);
  name = are.0.0;
  named = are.0.1;
  is_end = are.0.2;
}
split_at names report place ended (p ∷ before) after [] are first second = absurd are
split_at names report place ended (p ∷ before) after (e ∷ kept) are first second =
    let s = split_at names report place ended before after kept are.1 first.1 second in record {
      value = s.value;
      before = e ∷ s.before;
      after = s.after;
      is = ap (λ (l : List EndedValue). e ∷ l) s.is;
      alone = (((p.line, first.0, are.0.1 ∙ ap (λ (l : List ℕ). Some l) (sym are.0.2.line_is)), s.alone.0), s.alone.1);
      name = s.name;
      named = s.named;
      is_end = s.is_end;
    }

has_record : (olds : List QueueValue) (report : Report) (place : ℕ) (plan : List PlannedEnd) (kept : List EndedValue) (old mid new : QueueValue) → slice_get olds place ≡ Some old → AreEndsOf (lines_of olds) plan kept
    → IsPlanned report place plan old mid → new.line ≡ mid.line → HasRecord (lines_of olds) report.pages place kept old new
has_record olds report place plan kept old mid new there are planned line_is =
    let s = split_at (lines_of olds) report place planned.ended planned.before planned.after kept (subst (λ (l : List PlannedEnd). AreEndsOf (lines_of olds) l kept) planned.is are) planned.alone.0 planned.alone.1 in
    let name_is : s.name ≡ old.line = same_some s.name old.line (sym s.named ∙ line_at olds place old there) in
    let is_end : IsEndOf planned.ended old.line s.value = subst (λ (l : List ℕ). IsEndOf planned.ended l s.value) name_is s.is_end in record {
      ended = s.value;
      before = s.before;
      after = s.after;
      is = s.is;
      alone = s.alone;
      line_is = line_is ∙ planned.taken.line_is;
      named = is_end.line_is;
      whole = planned.taken.whole;
      leaves = planned.taken.names.leaves old.line s.value is_end;
    }

-- ---- no later end is noted

pub unsure_set : (queues : List QueueValue) (i : ℕ) (q new : QueueValue) → slice_get queues i ≡ Some q → new ≡ record q { is_whole = false } → slice_set queues i new ≡ unsure_at i queues
unsure_set [] i q new at is = cc
unsure_set (s ∷ queues) zero q new at is = ap (λ (v : QueueValue). v ∷ queues) (is ∙ ap (λ (v : QueueValue). record v { is_whole = false }) (sym (same_some s q at)))
unsure_set (s ∷ queues) (suc i) q new at is = ap (λ (l : List QueueValue). s ∷ l) (unsure_set queues i q new at is)

pub unsure_beyond : (queues : List QueueValue) (i : ℕ) → length queues ≤ i → unsure_at i queues ≡ queues
unsure_beyond [] i far = refl
unsure_beyond (s ∷ queues) zero far = absurd (omega (arith, far))
unsure_beyond (s ∷ queues) (suc i) far = ap (λ (l : List QueueValue). s ∷ l) (unsure_beyond queues i (omega (arith, far)))

unsure_other : (queues : List QueueValue) (i place : ℕ) → i ≢ place → slice_get (unsure_at i queues) place ≡ slice_get queues place
unsure_other [] i place unlike = refl
unsure_other (s ∷ queues) zero zero unlike = absurd (unlike refl)
unsure_other (s ∷ queues) zero (suc place) unlike = refl
unsure_other (s ∷ queues) (suc i) zero unlike = refl
unsure_other (s ∷ queues) (suc i) (suc place) unlike = unsure_other queues i place (λ same. unlike (ap suc same))

unsure_own : (queues : List QueueValue) (i : ℕ) (q : QueueValue) → slice_get queues i ≡ Some q → slice_get (unsure_at i queues) i ≡ Some (record q { is_whole = false })
unsure_own [] i q at = cc
unsure_own (s ∷ queues) zero q at = ap (λ (v : QueueValue). Some (record v { is_whole = false })) (same_some s q at)
unsure_own (s ∷ queues) (suc i) q at = unsure_own queues i q at

lines_unsure : (queues : List QueueValue) (i : ℕ) → lines_of (unsure_at i queues) ≡ lines_of queues
lines_unsure [] i = refl
lines_unsure (s ∷ queues) zero = refl
lines_unsure (s ∷ queues) (suc i) = ap (λ (l : List (List ℕ)). s.line ∷ l) (lines_unsure queues i)

all_lines : (plan : List PlannedEnd) (queues : List QueueValue) → lines_of (unsure_all plan queues) ≡ lines_of queues
all_lines [] queues = refl
all_lines (p ∷ plan) queues = all_lines plan (unsure_at p.line queues) ∙ lines_unsure queues p.line

none_unsure : (place : ℕ) (plan : List PlannedEnd) (queues : List QueueValue) → NoneIsOf place plan → slice_get (unsure_all plan queues) place ≡ slice_get queues place
none_unsure place [] queues none = refl
none_unsure place (p ∷ plan) queues none = none_unsure place plan (unsure_at p.line queues) none.1 ∙ unsure_other queues p.line place none.0

own_unsure : (report : Report) (place : ℕ) (ended : EndedJob) (before after : List PlannedEnd) (queues : List QueueValue) (q : QueueValue) → NoneIsOf place before → NoneIsOf place after → slice_get queues place ≡ Some q
    → slice_get (unsure_all (before ++ record { line = place; report = report; ended = ended } ∷ after) queues) place ≡ Some (record q { is_whole = false })
own_unsure report place ended [] after queues q first second at = none_unsure place after (unsure_at place queues) second ∙ unsure_own queues place q at
own_unsure report place ended (p ∷ before) after queues q first second at =
    own_unsure report place ended before after (unsure_at p.line queues) q first.1 second (unsure_other queues p.line place first.0 ∙ at)

planned_unsure : (report : Report) (place : ℕ) (plan : List PlannedEnd) (queues : List QueueValue) (old mid new : QueueValue) → IsPlanned report place plan old mid → slice_get queues place ≡ Some mid
    → slice_get (unsure_all plan queues) place ≡ Some new → new ≡ record mid { is_whole = false }
planned_unsure report place plan queues old mid new planned at now =
    same_some new (record mid { is_whole = false })
    (sym now ∙ ap (λ (l : List PlannedEnd). slice_get (unsure_all l queues) place) planned.is
    ∙ own_unsure report place planned.ended planned.before planned.after queues mid planned.alone.0 planned.alone.1 at)

-- a queue of so many names is there
pub there_among : (olds mids : List QueueValue) (place : ℕ) (old : QueueValue) → lines_of mids ≡ lines_of olds → slice_get olds place ≡ Some old → (mid : QueueValue) × (slice_get mids place ≡ Some mid)
there_among [] mids place old same at = cc
there_among (o ∷ olds) [] place old same at = cc
there_among (o ∷ olds) (m ∷ mids) zero old same at = (m, refl)
there_among (o ∷ olds) (m ∷ mids) (suc place) old same at = there_among olds mids place old (let rest : lines_of mids ≡ lines_of olds = cc in rest) at

-- what was lent as a slice
after_it : (news rest : List QueueValue) → take (length news) (news ++ rest) ≡ news
after_it [] rest = refl
after_it (s ∷ news) rest = ap (λ (l : List QueueValue). s ∷ l) (after_it news rest)

pub written_back : (len : ℕ) (olds news : List QueueValue) → len ≡ length olds → length news ≡ length olds → take len (news ++ drop (length news) olds) ≡ news
written_back len olds news whole many = ap (λ (n : ℕ). take n (news ++ drop (length news) olds)) (whole ∙ sym many) ∙ after_it news (drop (length news) olds)

-- ---- what the queues say to be on the disk

-- of each line one report at most
after_none : (place : ℕ) (jobs : List LineReport) → ((k : ℕ) (d : LineReport) → k < length jobs → place < (get_or jobs k d).line) → reports_of place jobs ≡ []
after_none place [] above = refl
after_none place (r ∷ jobs) above =
    ap (λ (b : Bool). cond b (r.report ∷ reports_of place jobs) (reports_of place jobs)) (ne_eqb r.line place (λ (same : r.line ≡ place). let more : place < r.line = above 0 r (omega arith) in absurd (omega (arith, same, more))))
    ∙ after_none place jobs (λ k d low. above (suc k) d (omega (arith, low)))

pub one_report : (place : ℕ) (jobs : List LineReport) → RiseByLine jobs → (reports_of place jobs ≡ []) ⊎ ((r : Report) × (reports_of place jobs ≡ r ∷ []))
one_report place [] rise = inl refl
one_report place (r ∷ jobs) rise = by (one_report place jobs rest) (nat_eq r.line place) refl
  where
    rest : RiseByLine jobs
    rest = λ i j d low high. rise (suc i) (suc j) d (omega (arith, low)) (omega (arith, high))

    later : (k : ℕ) (d : LineReport) → k < length jobs → r.line < (get_or jobs k d).line
    later k d low = let both : (get_or (r ∷ jobs) 0 d).line < (get_or (r ∷ jobs) (suc k) d).line = rise 0 (suc k) d (omega arith) (omega (arith, low)) in both

    by : (reports_of place jobs ≡ []) ⊎ ((s : Report) × (reports_of place jobs ≡ s ∷ [])) → (b : Bool) → nat_eq r.line place ≡ b → (cond b (r.report ∷ reports_of place jobs) (reports_of place jobs) ≡ []) ⊎ ((s : Report) × (cond b (r.report ∷ reports_of place jobs) (reports_of place jobs) ≡ s ∷ []))
    by tail true on =
        let here : r.line ≡ place = eqb-true r.line place on in
        inr (r.report, ap (λ (l : List Report). r.report ∷ l) (after_none place jobs (λ k d low. let less : r.line < (get_or jobs k d).line = later k d low in omega (arith, less, here))))
    by tail false off = tail

-- one queue by one
among_at : (queues : List QueueValue) (names : List PageName) → ((place : ℕ) (queue : QueueValue) → slice_get queues place ≡ Some queue → AreAmong queue.line queue.waits names) → AllAreAmong queues names
among_at [] names each = tt
among_at (s ∷ queues) names each = (each 0 s refl, among_at queues names (λ place queue at. each (suc place) queue at))

at_among : (queues : List QueueValue) (names : List PageName) (place : ℕ) (queue : QueueValue) → AllAreAmong queues names → slice_get queues place ≡ Some queue → AreAmong queue.line queue.waits names
at_among [] names place queue are at = cc
at_among (s ∷ queues) names zero queue are at = subst (λ (q : QueueValue). AreAmong q.line q.waits names) (same_some s queue at) are.0
at_among (s ∷ queues) names (suc place) queue are at = at_among queues names place queue are.1 at

not_it : (line : List ℕ) (queues : List QueueValue) (place : ℕ) (name : List ℕ) → IsOther line queues → slice_get (lines_of queues) place ≡ Some name → line ≢ name
not_it line [] place name other at = cc
not_it line (s ∷ queues) zero name other at = λ same. other.0 (same_some s.line name at ∙ sym same)
not_it line (s ∷ queues) (suc place) name other at = not_it line queues place name other.1 at

unlike_names : (queues : List QueueValue) (i j : ℕ) (queue : QueueValue) (name : List ℕ) → HaveOwnNames queues → slice_get queues i ≡ Some queue → slice_get (lines_of queues) j ≡ Some name → j ≢ i → queue.line ≢ name
unlike_names [] i j queue name own at named unlike = cc
unlike_names (s ∷ queues) zero zero queue name own at named unlike = absurd (unlike refl)
unlike_names (s ∷ queues) zero (suc j) queue name own at named unlike = subst (λ (q : QueueValue). q.line ≢ name) (same_some s queue at) (not_it s.line queues j name own.0 named)
unlike_names (s ∷ queues) (suc i) zero queue name own at named unlike = λ same. not_it s.line queues i queue.line own.0 (line_at queues i queue at) (same_some s.line name named ∙ sym same)
unlike_names (s ∷ queues) (suc i) (suc j) queue name own at named unlike = unlike_names queues i j queue name own.1 at named (λ same. unlike (ap suc same))

-- what ends of others leave
among_still : (olds : List QueueValue) (place : ℕ) (old : QueueValue) (waits : List QueuedPage) (kept : List EndedValue) (pages : List PageValue) → HaveOwnNames olds → slice_get olds place ≡ Some old → AreOfOthers (lines_of olds) place kept
    → AreAmong old.line waits (map name_of pages) → AreAmong old.line waits (map name_of (without_all kept pages))
among_still olds place old waits [] pages own at others are = are
among_still olds place old waits (e ∷ kept) pages own at others are =
    among_still olds place old waits kept (without e pages) own at others.1
    (subst (λ (l : List QueuedPage). AreAmong old.line l (map name_of (without e pages))) (others_stay e old.line waits (unlike_names olds place others.0.0 old e.line own at others.0.2 others.0.1))
    (none_is_forgotten e old.line waits pages are))

pub without_split : (before after : List EndedValue) (e : EndedValue) (told : List PageValue) → without_all (before ++ e ∷ after) told ≡ without_all after (without e (without_all before told))
without_split [] after e told = refl
without_split (b ∷ before) after e told = without_split before after e (without b told)

fewer_among : (line : List ℕ) (n : ℕ) (waits : List QueuedPage) (names : List PageName) → AreAmong line waits names → AreAmong line (drop n waits) names
fewer_among line zero waits names are = are
fewer_among line (suc n) [] names are = are
fewer_among line (suc n) (page ∷ waits) names are = fewer_among line n waits names are.1

module _ (olds : List QueueValue) (own : HaveOwnNames olds) (place : ℕ) (old new : QueueValue) (at : slice_get olds place ≡ Some old) (kept : List EndedValue) (pages : List PageValue) (are : AreAmong old.line old.waits (map name_of pages)) where
  noted_among : (count : ℕ) → IsNotedSo (lines_of olds) count place kept old new → AreAmong new.line new.waits (map name_of (without_all kept pages))
  noted_among count is =
      let has = is.has in
      subst (λ (l : List ℕ). AreAmong l new.waits (map name_of (without_all kept pages))) (sym has.line_is)
      (subst (λ (w : List QueuedPage). AreAmong old.line w (map name_of (without_all kept pages))) (has.leaves ∙ sym is.gone)
      (subst (λ (p : List PageValue). AreAmong old.line (left_by has.ended old.line old.waits) (map name_of p)) (sym (ap (λ (l : List EndedValue). without_all l pages) has.is ∙ without_split has.before has.after has.ended pages))
      (among_still olds place old (left_by has.ended old.line old.waits) has.after (without has.ended (without_all has.before pages)) own at has.alone.1
      (none_is_forgotten has.ended old.line old.waits (without_all has.before pages) (among_still olds place old old.waits has.before pages own at has.alone.0 are)))))

  unnoted_among : (count : ℕ) → StaysUnnoted count old new → AreOfOthers (lines_of olds) place kept → AreAmong new.line new.waits (map name_of (without_all kept pages))
  unnoted_among count is others =
      subst (λ (l : List ℕ). AreAmong l new.waits (map name_of (without_all kept pages))) (sym is.line_is) (elim is.waits [
        | inl same ↦ subst (λ (w : List QueuedPage). AreAmong old.line w (map name_of (without_all kept pages))) (sym same) (among_still olds place old old.waits kept pages own at others are)
        | inr gone ↦ subst (λ (w : List QueuedPage). AreAmong old.line w (map name_of (without_all kept pages))) (sym gone)
            (fewer_among old.line count old.waits (map name_of (without_all kept pages)) (among_still olds place old old.waits kept pages own at others are))
      ])

  one_among : (b : Bool) (count : ℕ) → EndsOne b (lines_of olds) count place kept true old new → AreAmong new.line new.waits (map name_of (without_all kept pages))
  one_among true count is = noted_among count is.1
  one_among false count (inl is) = absurd (let no : true ≡ false = is.0 in cc)
  one_among false count (inr is) = unnoted_among count is.0 is.1

-- ---- all of it

module _ {D : Type 0} (seen : D → List ℕ) (may_leave : D → List ℕ → Type 0) (is_usable : D → Bool) (jobs : List LineReport) (plan : List PlannedEnd) (olds mids : List QueueValue) (planned : Planned jobs olds mids plan) (rise : RiseByLine jobs) (before : Spool D) where
  ends_are : (kept : List EndedValue) → AreEndsOf (lines_of mids) plan kept → AreEndsOf (lines_of olds) plan kept
  ends_are kept are = subst (λ (n : List (List ℕ)). AreEndsOf n plan kept) planned.lines are

  one_noted : (kept : List EndedValue) → AreEndsOf (lines_of olds) plan kept → (place : ℕ) (report : Report) (old new : QueueValue) → slice_get olds place ≡ Some old
      → IsPlanned report place plan old new ⊎ (StaysUnnoted report.pages old new × NoneIsOf place plan) → (is_noted : Bool) × EndsOne is_noted (lines_of olds) report.pages place kept true old new
  one_noted kept are place report old new there (inl is) =
      (true, (refl, record { has = has_record olds report place plan kept old new new there are is refl; gone = is.taken.gone; still = is.taken.still }))
  one_noted kept are place report old new there (inr is) = (false, inr (is.0, others_of (lines_of olds) place plan kept are is.1))

  -- a spool that does not refuse has just these
  accepted : (after : Spool D) → Accepts after → (pages left : List PageValue) → WaitSo seen may_leave is_usable after (λ told. told ≡ left) → Rests seen may_leave is_usable after left
  accepted after accepts pages left (inl is) = subst (λ (l : List PageValue). Rests seen may_leave is_usable after l) is.2 is.1
  accepted after accepts pages left (inr is) = absurd (let no : false ≡ true = sym accepts ∙ is.0 in cc)

  so_agree : {after : Spool D} (kept : List EndedValue) → AreEndsOf (lines_of olds) plan kept → HaveOwnNames olds → (agrees : Agree seen may_leave is_usable before olds) → Rests seen may_leave is_usable after (without_all kept agrees.pages)
      → Agree seen may_leave is_usable after mids
  so_agree kept are own agrees wait = record {
    pages = without_all kept agrees.pages;
    wait = wait;
    among = among_at mids (map name_of (without_all kept agrees.pages)) (λ place new now. by place new now (there_among mids olds place new (sym planned.lines) now));
  }
    where
      by : (place : ℕ) (new : QueueValue) → slice_get mids place ≡ Some new → (old : QueueValue) × (slice_get olds place ≡ Some old) → AreAmong new.line new.waits (map name_of (without_all kept agrees.pages))
      by place new now old =
          let was : AreAmong old.0.line old.0.waits (map name_of agrees.pages) = at_among olds (map name_of agrees.pages) place old.0 agrees.among old.1 in
          elim (one_report place jobs rise) [
            | inl none ↦
                let it = planned.others place none in
                let same : old.0 ≡ new = same_some old.0 new (sym old.1 ∙ sym it.0 ∙ now) in
                subst (λ (q : QueueValue). AreAmong q.line q.waits (map name_of (without_all kept agrees.pages))) same
                (among_still olds place old.0 old.0.waits kept agrees.pages own old.1 (others_of (lines_of olds) place plan kept are it.1) was)
            | inr one ↦
                let it = one_noted kept are place one.0 old.0 new old.1 (planned.each place one.0 old.0 new one.1 old.1 now) in
                one_among olds own place old.0 new old.1 kept agrees.pages was it.0 one.0.pages it.1
          ]

  -- they were put
  pub put_together : (between after : Spool D) → MayPutEnds seen may_leave is_usable (lines_of mids) plan true before between
      → ((waits : List PageValue) → Rests seen may_leave is_usable between waits → WaitSo seen may_leave is_usable after (λ told. told ≡ waits))
      → (e : EndsTogether seen may_leave is_usable jobs olds mids before after) × (e.is_ok ≡ true)
  put_together between after (inl none) turned = absurd (let no : true ≡ false = none.0 in cc)
  put_together between after (inr put) turned =
      let kept = put.0 in
      let are : AreEndsOf (lines_of olds) plan kept = ends_are kept put.1 in (
        record {
          kept = kept;
          is_ok = true;
          lines = planned.lines;
          others = λ place none. let it = planned.others place none in (it.0, others_of (lines_of olds) place plan kept are it.1);
          each = λ place report old new is there now. one_noted kept are place report old new there (planned.each place report old new is there now);
          wait = λ ok waits was. turned (without_all kept waits) (put.2.done refl waits was);
          left = λ err. absurd (let no : true ≡ false = err in cc);
          agree = λ ok own agrees accepts. so_agree kept are own agrees (accepted after accepts agrees.pages (without_all kept agrees.pages) (turned (without_all kept agrees.pages) (put.2.done refl agrees.pages agrees.wait)));
          refuses = λ is. absurd (let no : true ≡ false = (put.2.refused is).0 in cc);
        },
        refl,
      )

  -- they were not, or they are there all the same
  one_unsure : (kept : List EndedValue) → AreEndsOf (lines_of olds) plan kept → (place : ℕ) (report : Report) (old mid new : QueueValue) → slice_get olds place ≡ Some old → slice_get mids place ≡ Some mid
      → slice_get (unsure_all plan mids) place ≡ Some new → IsPlanned report place plan old mid ⊎ (StaysUnnoted report.pages old mid × NoneIsOf place plan)
      → (is_noted : Bool) × EndsOne is_noted (lines_of olds) report.pages place kept false old new
  one_unsure kept are place report old mid new there at now (inl is) =
      let new_is : new ≡ record mid { is_whole = false } = planned_unsure report place plan mids old mid new is at now in
      (false, inl (refl, has_record olds report place plan kept old mid new there are is (ap (λ (v : QueueValue). v.line) new_is), ap (λ (v : QueueValue). v.is_whole) new_is))
  one_unsure kept are place report old mid new there at now (inr is) =
      let new_is : mid ≡ new = same_some mid new (sym at ∙ sym (none_unsure place plan mids is.1) ∙ now) in
      (false, inr (subst (λ (v : QueueValue). StaysUnnoted report.pages old v) new_is is.0, others_of (lines_of olds) place plan kept are is.1))

  -- nothing was put
  one_left : (place : ℕ) (report : Report) (old mid new : QueueValue) → slice_get mids place ≡ Some mid → slice_get (unsure_all plan mids) place ≡ Some new
      → IsPlanned report place plan old mid ⊎ (StaysUnnoted report.pages old mid × NoneIsOf place plan) → (is_noted : Bool) × EndsOne is_noted (lines_of olds) report.pages place [] false old new
  one_left place report old mid new at now (inl is) =
      let new_is : new ≡ record mid { is_whole = false } = planned_unsure report place plan mids old mid new is at now in
      (false, inr (record { line_is = ap (λ (v : QueueValue). v.line) new_is ∙ is.taken.line_is; stays = inl (ap (λ (v : QueueValue). v.is_whole) new_is); waits = inr (ap (λ (v : QueueValue). v.waits) new_is ∙ is.taken.gone) }, tt))
  one_left place report old mid new at now (inr is) =
      let new_is : mid ≡ new = same_some mid new (sym at ∙ sym (none_unsure place plan mids is.1) ∙ now) in
      (false, inr (subst (λ (v : QueueValue). StaysUnnoted report.pages old v) new_is is.0, tt))

  pub not_together : (after : Spool D) → MayPutEnds seen may_leave is_usable (lines_of mids) plan false before after
      → (e : EndsTogether seen may_leave is_usable jobs olds (unsure_all plan mids) before after) × (e.is_ok ≡ false)
  not_together after (inl none) = (
    record {
      kept = [];
      is_ok = false;
      lines = all_lines plan mids ∙ planned.lines;
      others = λ place no_job. let it = planned.others place no_job in (none_unsure place plan mids it.1 ∙ it.0, tt);
      each = λ place report old new is there now.
          let mid = there_among olds mids place old planned.lines there in
          one_left place report old mid.0 new mid.1 now (planned.each place report old mid.0 is there mid.1);
      wait = λ ok. absurd (let no : false ≡ true = ok in cc);
      left = λ err waits was. inl (waits, subst (λ (s : Spool D). Rests seen may_leave is_usable s waits) (sym none.1) was, inl refl);
      agree = λ ok. absurd (let no : false ≡ true = ok in cc);
      refuses = λ is. (refl, none.1);
    },
    refl,
  )
  not_together after (inr put) =
      let kept = put.0 in
      let are : AreEndsOf (lines_of olds) plan kept = ends_are kept put.1 in (
        record {
          kept = kept;
          is_ok = false;
          lines = all_lines plan mids ∙ planned.lines;
          others = λ place no_job. let it = planned.others place no_job in (none_unsure place plan mids it.1 ∙ it.0, others_of (lines_of olds) place plan kept are it.1);
          each = λ place report old new is there now.
              let mid = there_among olds mids place old planned.lines there in
              one_unsure kept are place report old mid.0 new there mid.1 now (planned.each place report old mid.0 is there mid.1);
          wait = λ ok. absurd (let no : false ≡ true = ok in cc);
          left = λ err waits was. elim (put.2.failed refl) [
            | inl refuses ↦ inr (refuses, put.2.left refl waits was)
            | inr same ↦ inl (waits, rest_still seen may_leave is_usable before after waits same was, inl refl)
          ];
          agree = λ ok. absurd (let no : false ≡ true = ok in cc);
          refuses = λ is. (refl, (put.2.refused is).1);
        },
        refl,
      )

  -- no file is kept for nothing then
  pub tidy_together : (between after : Spool D) → MayPutEnds seen may_leave is_usable (lines_of mids) plan true before between
      → ((waits : List PageValue) → Rests seen may_leave is_usable between waits → Accepts after → IsTidy seen may_leave is_usable after)
      → (waits : List PageValue) → Rests seen may_leave is_usable before waits → Accepts after → IsTidy seen may_leave is_usable after
  tidy_together between after (inl none) tidy waits was accepts = absurd (let no : true ≡ false = none.0 in cc)
  tidy_together between after (inr put) tidy waits was accepts = tidy (without_all put.0 waits) (put.2.done refl waits was) accepts
