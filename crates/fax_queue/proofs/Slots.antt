-- Pages of lines one each, that are put one after another.
use Rattle.std.proofs.Common.{Bool, true, false, ◌≡◌, ◌≢◌, ◌∙◌, ℕ, zero, suc, ◌<◌, List, [], ◌∷◌, All, AllPairs, slice_get, arith, refl, sym, ap}
use Rattle.std.specs.Prelude.{slice_index_or, slice_set}
use Rattle.std.proofs.lemmas.Option.{slice_get_within}
use Rattle.fax_line.specs.declared.settling.PageToStore.{PageToStore}
use Rattle.fax_spool.specs.RecordOctets.{PageValue}
use Rattle.fax_queue.specs.Queues.{QueueValue}
use Rattle.fax_queue.specs.Storing.{AllArePlaced, IsPlaced}
use Rattle.fax_queue.specs.Lives.{EachIsPlaced, SlotsArePuts}
use Rattle.fax_queue.specs.Refusals.{SlotsAreRefusals}
use Rattle.fax_queue.proofs.Queueing.{set_at}

-- ---- lines one each

-- none of these pages is one of the line at this place
abbrev IsOfNone : ℕ → List PageToStore → Type 0
IsOfNone place [] = Unit {0}
IsOfNone place (page ∷ pages) = (page.line ≢ place) × IsOfNone place pages

-- no two are of one line
abbrev AreOneEach : List PageToStore → Type 0
AreOneEach [] = Unit {0}
AreOneEach (page ∷ pages) = IsOfNone page.line pages × AreOneEach pages

of_none : (place : ℕ) (pages : List PageToStore) → All (λ page. page.line ≢ place) pages → IsOfNone place pages
of_none place [] all = tt
of_none place (page ∷ pages) all = (all zero page (omega arith), of_none place pages (λ k d low. all (suc k) d (omega (arith, low))))

unlike : (low high : ℕ) → low < high → high ≢ low
unlike low high less same = omega (arith, less, same)

one_each : (pages : List PageToStore) → AllPairs (λ page after. page.line < after.line) pages → AreOneEach pages
one_each [] all = tt
one_each (page ∷ pages) all = (
  of_none page.line pages (λ k d low. unlike page.line (slice_index_or pages k d).line (all zero (suc k) d (omega arith) (omega (arith, low)))),
  one_each pages (λ i j d less low. all (suc i) (suc j) d (omega (arith, less)) (omega (arith, low))),
)

-- ---- one queue after another

pub set_other : (queues : List QueueValue) (place other : ℕ) (queue : QueueValue) → place ≢ other → slice_get (slice_set queues place queue) other ≡ slice_get queues other
set_other [] place other queue unlike = refl
set_other (s ∷ queues) zero zero queue unlike = absurd (unlike refl)
set_other (s ∷ queues) zero (suc other) queue unlike = refl
set_other (s ∷ queues) (suc place) zero queue unlike = refl
set_other (s ∷ queues) (suc place) (suc other) queue unlike = set_other queues place other queue (λ same. unlike (ap suc same))

put_beside : (b : Bool) (page : PageToStore) (value : PageValue) (olds news : List QueueValue) (place : ℕ) → page.line ≢ place → IsPlaced b page value olds news → slice_get news place ≡ slice_get olds place
put_beside b page value olds news place unlike put = ap (λ (l : List QueueValue). slice_get l place) put.are ∙ set_other olds page.line place put.new unlike

others_stay : (b : Bool) (pages : List PageToStore) (values : List PageValue) (olds news : List QueueValue) (place : ℕ) → IsOfNone place pages → AllArePlaced b pages values olds news → slice_get news place ≡ slice_get olds place
others_stay b [] [] olds news place none put = ap (λ (l : List QueueValue). slice_get l place) put
others_stay b [] (v ∷ values) olds news place none put = absurd put
others_stay b (p ∷ pages) [] olds news place none put = absurd put
others_stay b (p ∷ pages) (v ∷ values) olds news place none put = others_stay b pages values put.0 news place none.1 put.2 ∙ put_beside b p v olds put.0 place none.0 put.1

-- what was put before, of another line, is beside
each_after :
    (b : Bool) (page : PageToStore) (value : PageValue) (olds between news : List QueueValue) (pages : List PageToStore) (values : List PageValue) → IsPlaced b page value olds between → IsOfNone page.line pages
    → EachIsPlaced b pages values between news → EachIsPlaced b pages values olds news
each_after b page value olds between news [] [] put none each = tt
each_after b page value olds between news [] (v ∷ values) put none each = absurd each
each_after b page value olds between news (p ∷ pages) [] put none each = absurd each
each_after b page value olds between news (p ∷ pages) (v ∷ values) put none each = (
  record {
    old = each.0.old;
    new = each.0.new;
    was = sym (put_beside b page value olds between p.line (λ same. none.0 (sym same)) put) ∙ each.0.was;
    is = each.0.is;
    is_record = each.0.is_record;
    line_is = each.0.line_is;
    queued = each.0.queued;
  },
  each_after b page value olds between news pages values put none.1 each.1,
)

each_queued : (b : Bool) (pages : List PageToStore) (values : List PageValue) (olds news : List QueueValue) → AreOneEach pages → AllArePlaced b pages values olds news → EachIsPlaced b pages values olds news
each_queued b [] [] olds news one put = tt
each_queued b [] (v ∷ values) olds news one put = absurd put
each_queued b (p ∷ pages) [] olds news one put = absurd put
each_queued b (p ∷ pages) (v ∷ values) olds news one put =
    let its = put.1 in (
      record {
        old = its.old;
        new = its.new;
        was = its.was;
        is = others_stay b pages values put.0 news p.line one.0 put.2 ∙ ap (λ (l : List QueueValue). slice_get l p.line) its.are
            ∙ set_at olds p.line its.new (slice_get_within olds p.line its.old its.was);
        is_record = its.is_record;
        line_is = its.line_is;
        queued = its.queued;
      },
      each_after b p v olds put.0 news pages values its one.0 (each_queued b pages values put.0 news one.1 put.2),
    )

pub slots_are_refusals : SlotsAreRefusals
slots_are_refusals pages values olds news put = (
  λ rising. each_queued false pages values olds news (one_each pages rising) put,
  λ place none. others_stay false pages values olds news place (of_none place pages none) put,
)

pub slots_are_puts : SlotsArePuts
slots_are_puts pages values olds news put = (
  λ rising. each_queued true pages values olds news (one_each pages rising) put,
  λ place none. others_stay true pages values olds news place (of_none place pages none) put,
)
