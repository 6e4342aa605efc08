-- What waits by the records of two files.
use Rattle.std.proofs.Common.{◌≡◌, true, false, not, cond, List, [], ◌∷◌, ◌++◌, refl, sym, ◌∙◌, ap, append_assoc}
use Rattle.std.proofs.lemmas.List.{append-nil}
use Rattle.fax_spool.specs.RecordOctets.{PageValue, EndedValue}
use Rattle.fax_spool.specs.Waits.{name_of, ends, without, left_of, after, left_after, waiting_after, waiting}
use Rattle.fax_spool.specs.declared.spool_record.SpoolRecord.{SpoolRecord}
use Rattle.fax_spool.specs.declared.spool_record.SpoolRecord.TheVariants.{Page, Ended, Epoch, Damaged}

without-append : (e : EndedValue) (a b : List PageValue) → without e (a ++ b) ≡ without e a ++ without e b
without-append e [] b = refl
without-append e (p ∷ a) b =
    elim (ends e (name_of p)) as (λ t. cond (not t) (p ∷ without e (a ++ b)) (without e (a ++ b)) ≡ cond (not t) (p ∷ without e a) (without e a) ++ without e b) [
      | true ↦ without-append e a b
      | false ↦ ap (λ (l : List PageValue). p ∷ l) (without-append e a b)
    ]

after-append : (a b : List PageValue) (r : SpoolRecord) → after (a ++ b) r ≡ left_of a r ++ after b r
after-append a b (Page page) = append_assoc a b (page ∷ [])
after-append a b (Ended ended) = without-append ended a b
after-append a b (Epoch number) = refl
after-append a b Damaged = refl

pub splits : (a b : List PageValue) (records : List SpoolRecord) → waiting_after (a ++ b) records ≡ left_after a records ++ waiting_after b records
splits a b [] = refl
splits a b (r ∷ records) =
    ap (λ (l : List PageValue). waiting_after l records) (after-append a b r) ∙ splits (left_of a r) (after b r) records

pub follows : (pages : List PageValue) (olds news : List SpoolRecord) → waiting_after pages (olds ++ news) ≡ waiting_after (waiting_after pages olds) news
follows pages [] news = refl
follows pages (r ∷ olds) news = follows (after pages r) olds news

pub shares : (olds news : List SpoolRecord) → waiting (olds ++ news) ≡ left_after (waiting olds) news ++ waiting news
shares olds news =
    follows [] olds news ∙ ap (λ (l : List PageValue). waiting_after l news) (sym (append-nil (waiting olds))) ∙ splits (waiting olds) [] news
