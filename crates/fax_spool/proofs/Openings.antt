-- What two files that were recovered make of a spool.
use Rattle.std.proofs.Common.{◌≡◌, ℕ, ◌<◌, ◌≤◌, Bool, true, false, nat_le, List, ◌++◌, Vec, Global, Result, Ok, Err, IfOk, map, sym, ◌∙◌, ap, subst, arith, if◌then◌else◌}
use Rattle.std.proofs.lemmas.Bool.Decides.{nat_tests}
use Rattle.fax_spool.specs.Records.{Stands}
use Rattle.fax_spool.specs.Found.{is_destroyed, items_of, passed_over}
use Rattle.fax_spool.specs.SpoolRecords.{AreReadAs}
use Rattle.fax_spool.specs.Waits.{waiting}
use Rattle.fax_spool.specs.Spools.{Stores, Tells, epoch_now, epoch_records, greatest_epoch}
use Rattle.fax_spool.specs.Opened.{IsOpened, closed, comes_first, newer_of, older_of, torn_found}
use Rattle.fax_spool.specs.Torn.{damaged}
use Rattle.fax_spool.specs.declared.file.FileContents.{FileContents}
use Rattle.fax_spool.specs.Listed.{IsListed}
use Rattle.fax_spool.specs.declared.listing.Harm.{Harm}
use Rattle.fax_spool.specs.declared.listing.Listing.{Listing}
use Rattle.fax_spool.specs.declared.opening.OpenedSpool.{OpenedSpool}
use Rattle.fax_spool.specs.declared.spool_record.SpoolRecord.{SpoolRecord}

-- the records of a file, as they were found and read
pub reads : (f : FileContents) (sliced : List (Vec ℕ Global)) (records shown : List SpoolRecord) → sliced ≡ f.items.items → AreReadAs (map (λ (v : Vec ℕ Global). v.items) sliced) records → shown ≡ records
    → AreReadAs (items_of f) shown
reads f sliced records shown are read is =
    subst (λ (l : List SpoolRecord). AreReadAs (items_of f) l) (sym is)
    (subst (λ (l : List (Vec ℕ Global)). AreReadAs (map (λ (v : Vec ℕ Global). v.items) l) records) are read)

abbrev pub tells : (file : List ℕ) (f : FileContents) (shown : List SpoolRecord) → Stands file (items_of f) → AreReadAs (items_of f) shown → Tells file shown
tells file f shown stands read = record { items = items_of f; stands = stands; read = read }

pub destroyed_are : (a b x y : Bool) (olds news : List SpoolRecord) → a ≡ x → b ≡ y → torn_found a b olds news ≡ torn_found x y olds news
destroyed_are a b x y olds news first second =
    ap (λ (t : Bool). torn_found t b olds news) first ∙ ap (λ (t : Bool). torn_found x t olds news) second

-- the torn calls, where it is known which file is the older one
torn_if : (one_end other_end : List ℕ) (first known : Bool) → first ≡ known → (olds olds_are news news_are : List SpoolRecord) → olds ≡ olds_are → news ≡ news_are
    → torn_found (is_destroyed (if first then one_end else other_end)) (is_destroyed (if first then other_end else one_end)) olds news
    ≡ torn_found (is_destroyed (if known then one_end else other_end)) (is_destroyed (if known then other_end else one_end)) olds_are news_are
torn_if one_end other_end first known is olds olds_are news news_are old new =
    ap (λ (b : Bool). torn_found (is_destroyed (if b then one_end else other_end)) (is_destroyed (if b then other_end else one_end)) olds news) is
    ∙ ap (λ (l : List SpoolRecord). torn_found (is_destroyed (if known then one_end else other_end)) (is_destroyed (if known then other_end else one_end)) l news) old
    ∙ ap (λ (l : List SpoolRecord). torn_found (is_destroyed (if known then one_end else other_end)) (is_destroyed (if known then other_end else one_end)) olds_are l) new

pub is_before : (a b : ℕ) → a ≤ b → nat_le a b ≡ true
is_before a b le = grind (arith, nat_tests, le)

pub is_not_before : (a b : ℕ) → b < a → nat_le a b ≡ false
is_not_before a b lt = grind (arith, nat_tests, lt)

module _ {D : Type 0} (seen : D → List ℕ) (may_leave : D → List ℕ → Type 0) (is_usable : D → Bool) (one other : List ℕ) (opened : OpenedSpool D) (ones others : List SpoolRecord) (one_tells : Tells one ones) (other_tells : Tells other others) where
  -- the first file is the older one
  pub first_is_older : comes_first ones others ≡ true → Stores seen may_leave is_usable opened.spool ones (others ++ epoch_records (epoch_now opened.spool))
      → greatest_epoch ones < epoch_now opened.spool → greatest_epoch others < epoch_now opened.spool
      → opened.pages.items ≡ closed (waiting (ones ++ others)) → opened.torn.items ≡ torn_found (is_destroyed one_tells.stands.end) (is_destroyed other_tells.stands.end) ones others → opened.older_damaged ≡ damaged ones → opened.newer_damaged ≡ damaged others
      → opened.older_passed_over ≡ passed_over one_tells.stands.end → opened.newer_passed_over ≡ passed_over other_tells.stands.end → IsOpened seen may_leave is_usable one other opened
  first_is_older is keeps older_low newer_low pages torn older newer older_over newer_over =
      let olds : older_of ones others ≡ ones = ap (λ (b : Bool). if b then ones else others) is in
      let news : newer_of ones others ≡ others = ap (λ (b : Bool). if b then others else ones) is in
      record {
        ones = ones;
        others = others;
        one_tells = one_tells;
        other_tells = other_tells;
        keeps = subst (λ (l : List SpoolRecord). Stores seen may_leave is_usable opened.spool l (newer_of ones others ++ epoch_records (epoch_now opened.spool))) (sym olds)
            (subst (λ (l : List SpoolRecord). Stores seen may_leave is_usable opened.spool ones (l ++ epoch_records (epoch_now opened.spool))) (sym news) keeps);
        older_epochs = subst (λ (l : List SpoolRecord). greatest_epoch l < epoch_now opened.spool) (sym olds) older_low;
        newer_epochs = subst (λ (l : List SpoolRecord). greatest_epoch l < epoch_now opened.spool) (sym news) newer_low;
        pages = pages ∙ sym (ap (λ (l : List SpoolRecord). closed (waiting (l ++ newer_of ones others))) olds ∙ ap (λ (l : List SpoolRecord). closed (waiting (ones ++ l))) news);
        torn = torn ∙ sym (torn_if one_tells.stands.end other_tells.stands.end (comes_first ones others) true is (older_of ones others) ones (newer_of ones others) others olds news);
        older_damaged = older ∙ sym (ap damaged olds);
        newer_damaged = newer ∙ sym (ap damaged news);
        older_passed_over = older_over ∙ sym (ap (λ (b : Bool). if b then passed_over one_tells.stands.end else passed_over other_tells.stands.end) is);
        newer_passed_over = newer_over ∙ sym (ap (λ (b : Bool). if b then passed_over other_tells.stands.end else passed_over one_tells.stands.end) is);
      }

  -- the second one is
  pub second_is_older : comes_first ones others ≡ false → Stores seen may_leave is_usable opened.spool others (ones ++ epoch_records (epoch_now opened.spool))
      → greatest_epoch others < epoch_now opened.spool → greatest_epoch ones < epoch_now opened.spool
      → opened.pages.items ≡ closed (waiting (others ++ ones)) → opened.torn.items ≡ torn_found (is_destroyed other_tells.stands.end) (is_destroyed one_tells.stands.end) others ones → opened.older_damaged ≡ damaged others → opened.newer_damaged ≡ damaged ones
      → opened.older_passed_over ≡ passed_over other_tells.stands.end → opened.newer_passed_over ≡ passed_over one_tells.stands.end → IsOpened seen may_leave is_usable one other opened
  second_is_older is keeps older_low newer_low pages torn older newer older_over newer_over =
      let olds : older_of ones others ≡ others = ap (λ (b : Bool). if b then ones else others) is in
      let news : newer_of ones others ≡ ones = ap (λ (b : Bool). if b then others else ones) is in
      record {
        ones = ones;
        others = others;
        one_tells = one_tells;
        other_tells = other_tells;
        keeps = subst (λ (l : List SpoolRecord). Stores seen may_leave is_usable opened.spool l (newer_of ones others ++ epoch_records (epoch_now opened.spool))) (sym olds)
            (subst (λ (l : List SpoolRecord). Stores seen may_leave is_usable opened.spool others (l ++ epoch_records (epoch_now opened.spool))) (sym news) keeps);
        older_epochs = subst (λ (l : List SpoolRecord). greatest_epoch l < epoch_now opened.spool) (sym olds) older_low;
        newer_epochs = subst (λ (l : List SpoolRecord). greatest_epoch l < epoch_now opened.spool) (sym news) newer_low;
        pages = pages ∙ sym (ap (λ (l : List SpoolRecord). closed (waiting (l ++ newer_of ones others))) olds ∙ ap (λ (l : List SpoolRecord). closed (waiting (others ++ l))) news);
        torn = torn ∙ sym (torn_if one_tells.stands.end other_tells.stands.end (comes_first ones others) false is (older_of ones others) others (newer_of ones others) ones olds news);
        older_damaged = older ∙ sym (ap damaged olds);
        newer_damaged = newer ∙ sym (ap damaged news);
        older_passed_over = older_over ∙ sym (ap (λ (b : Bool). if b then passed_over one_tells.stands.end else passed_over other_tells.stands.end) is);
        newer_passed_over = newer_over ∙ sym (ap (λ (b : Bool). if b then passed_over other_tells.stands.end else passed_over one_tells.stands.end) is);
      }

-- ---- what is listed

module _ (one other : List ℕ) (listing : Listing) (ones others : List SpoolRecord) (one_tells : Tells one ones) (other_tells : Tells other others) where
  abbrev pub AreHarmed : Type 0
  AreHarmed =
      (listing.one.damaged ≡ damaged ones) × (listing.other.damaged ≡ damaged others)
      × (listing.one.passed_over ≡ passed_over one_tells.stands.end) × (listing.other.passed_over ≡ passed_over other_tells.stands.end)

  pub first_is_listed : comes_first ones others ≡ true → listing.pages.items ≡ closed (waiting (ones ++ others))
      → listing.torn.items ≡ torn_found (is_destroyed one_tells.stands.end) (is_destroyed other_tells.stands.end) ones others
      → AreHarmed → IsListed one other listing
  first_is_listed is pages torn harmed =
      let olds : older_of ones others ≡ ones = ap (λ (b : Bool). if b then ones else others) is in
      let news : newer_of ones others ≡ others = ap (λ (b : Bool). if b then others else ones) is in
      record {
        ones = ones;
        others = others;
        one_tells = one_tells;
        other_tells = other_tells;
        pages = pages ∙ sym (ap (λ (l : List SpoolRecord). closed (waiting (l ++ newer_of ones others))) olds ∙ ap (λ (l : List SpoolRecord). closed (waiting (ones ++ l))) news);
        torn = torn ∙ sym (torn_if one_tells.stands.end other_tells.stands.end (comes_first ones others) true is (older_of ones others) ones (newer_of ones others) others olds news);
        one_damaged = harmed.0;
        other_damaged = harmed.1;
        one_passed_over = harmed.2;
        other_passed_over = harmed.3;
      }

  pub second_is_listed : comes_first ones others ≡ false → listing.pages.items ≡ closed (waiting (others ++ ones))
      → listing.torn.items ≡ torn_found (is_destroyed other_tells.stands.end) (is_destroyed one_tells.stands.end) others ones
      → AreHarmed → IsListed one other listing
  second_is_listed is pages torn harmed =
      let olds : older_of ones others ≡ others = ap (λ (b : Bool). if b then ones else others) is in
      let news : newer_of ones others ≡ ones = ap (λ (b : Bool). if b then others else ones) is in
      record {
        ones = ones;
        others = others;
        one_tells = one_tells;
        other_tells = other_tells;
        pages = pages ∙ sym (ap (λ (l : List SpoolRecord). closed (waiting (l ++ newer_of ones others))) olds ∙ ap (λ (l : List SpoolRecord). closed (waiting (others ++ l))) news);
        torn = torn ∙ sym (torn_if one_tells.stands.end other_tells.stands.end (comes_first ones others) false is (older_of ones others) others (newer_of ones others) ones olds news);
        one_damaged = harmed.0;
        other_damaged = harmed.1;
        one_passed_over = harmed.2;
        other_passed_over = harmed.3;
      }

-- where both are told of an answer
module _ (one other : List ℕ) (ones others : List SpoolRecord) (one_tells : Tells one ones) (other_tells : Tells other others) (one_harm other_harm : Harm) (one_lost other_lost : Bool)
    (one_damaged : one_harm.damaged ≡ damaged ones) (other_damaged : other_harm.damaged ≡ damaged others)
    (one_over : one_harm.passed_over ≡ passed_over one_tells.stands.end) (other_over : other_harm.passed_over ≡ passed_over other_tells.stands.end)
    (one_is : one_lost ≡ is_destroyed one_tells.stands.end) (other_is : other_lost ≡ is_destroyed other_tells.stands.end) where
  are_harmed : (listing : Listing) → listing.one ≡ one_harm → listing.other ≡ other_harm → AreHarmed one other listing ones others one_tells other_tells
  are_harmed listing first second =
      (ap (λ (h : Harm). h.damaged) first ∙ one_damaged, ap (λ (h : Harm). h.damaged) second ∙ other_damaged, ap (λ (h : Harm). h.passed_over) first ∙ one_over, ap (λ (h : Harm). h.passed_over) second ∙ other_over)

  pub first_if_ok : {E : Type 0} (r : Result Listing E) → comes_first ones others ≡ true → IfOk r (λ l. l.pages.items ≡ closed (waiting (ones ++ others)))
      → IfOk r (λ l. l.torn.items ≡ torn_found one_lost other_lost ones others) → IfOk r (λ l. l.one ≡ one_harm) → IfOk r (λ l. l.other ≡ other_harm)
      → IfOk r (IsListed one other)
  first_if_ok (Ok l) is pages torn first second =
      first_is_listed one other l ones others one_tells other_tells is pages
      (torn ∙ destroyed_are one_lost other_lost (is_destroyed one_tells.stands.end) (is_destroyed other_tells.stands.end) ones others one_is other_is) (are_harmed l first second)
  first_if_ok (Err e) is pages torn first second = tt

  pub second_if_ok : {E : Type 0} (r : Result Listing E) → comes_first ones others ≡ false → IfOk r (λ l. l.pages.items ≡ closed (waiting (others ++ ones)))
      → IfOk r (λ l. l.torn.items ≡ torn_found other_lost one_lost others ones) → IfOk r (λ l. l.one ≡ one_harm) → IfOk r (λ l. l.other ≡ other_harm)
      → IfOk r (IsListed one other)
  second_if_ok (Ok l) is pages torn first second =
      second_is_listed one other l ones others one_tells other_tells is pages
      (torn ∙ destroyed_are other_lost one_lost (is_destroyed other_tells.stands.end) (is_destroyed one_tells.stands.end) others ones other_is one_is) (are_harmed l first second)
  second_if_ok (Err e) is pages torn first second = tt
