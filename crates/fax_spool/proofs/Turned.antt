-- One octet of a file was turned.
use Rattle.std.proofs.Common.{◌≡◌, inl, inr, ℕ, ◌+◌, ◌-◌, ◌<◌, ◌≤◌, true, false, Some, List, [], ◌∷◌, ◌++◌, length, take, drop, get_or, refl, sym, ◌∙◌, ap, subst, arith, append_assoc, length-append, length-drop, take-append-drop}
use Rattle.std.proofs.lemmas.List.{drop_at, drop-drop, get_or-take, get_or-drop, get_or_append_left, length-take-le}
use Rattle.std.proofs.lemmas.List.Elements.{All-head, All-tail}
use Rattle.std.proofs.lemmas.Bool.{cases_lt}
use Rattle.std.proofs.lemmas.Grind.{same_number_lists}
use Rattle.std.proofs.lemmas.Nat.{from_be_bytes-to_be_bytes_4}
use Rattle.std.specs.List.{All}
use Rattle.fax_spool.specs.Records.{BeginsWith, Ends, IsShort, Stands, block, blocks, is_open, length_in, length_octets, lengths, says_open, shut}
use Rattle.fax_spool.specs.Turned.{IsTurned, OneTurnedOctet}
use Rattle.fax_spool.proofs.Headers.{begins_open, length_is, open_is, read_written, ends_shut, vote_stays}

-- ---- one record more

stands_more : (file r rest : List ℕ) (rs : List (List ℕ)) → BeginsWith file r rest → Stands rest rs → Stands file (r ∷ rs)
stands_more file r rest rs b s = record {
  front = b.head ++ (r ++ s.front);
  end = s.end;
  split = b.split ∙ ap (λ (l : List ℕ). b.head ++ l) (ap (λ (l : List ℕ). r ++ l) s.split ∙ sym (append_assoc r s.front s.end)) ∙ sym (append_assoc b.head (r ++ s.front) s.end);
  read = (s.front, record { head = b.head; split = refl; size = b.size; gate = b.gate; says = b.says }, s.read);
  no_more = s.no_more;
}

written_stands : (rs : List (List ℕ)) (after : List ℕ) → All IsShort rs → Stands (blocks rs ++ (shut ++ after)) rs
written_stands rs after short = record { front = blocks rs; end = shut ++ after; split = refl; read = read_written rs short; no_more = ends_shut shut after refl refl }

-- ---- the header of the first record, and what stands after it

module _ (r tail whole file : List ℕ) (place : ℕ) (is : whole ≡ block r ++ tail) (short : IsShort r) (turned : IsTurned place whole file) where
  n : ℕ
  n = 15 + length r

  block_length : length (block r) ≡ 15 + length r
  block_length = omega (arith, length-append (lengths r) r)

  long : length file ≡ 15 + length r + length tail
  long = omega (arith, turned.size, ap length is, length-append (block r) tail, block_length)

  head : List ℕ
  head = take 15 file

  -- an octet of the header that was not turned
  there : (i : ℕ) → i < 15 → (i ≡ place → ⊥) → get_or (take 15 file) i 0 ≡ get_or (block r ++ tail) i 0
  there i lt nay = get_or-take 15 file i 0 lt ∙ turned.others i nay ∙ ap (λ (l : List ℕ). get_or l i 0) is

  opened : is_open (take 15 file) ≡ true
  opened = open_is (take 15 file) (vote_stays (take 15 file) place 0 1 2 1 (omega arith) (omega arith) (there 0 (omega arith)) (there 1 (omega arith)) (there 2 (omega arith)))

  octet : ℕ → ℕ
  octet i = get_or (length_octets r) i 0

  says : length_in (take 15 file) ≡ Some (length r)
  says =
      length_is (take 15 file) (get_or (length_octets r) 0 0) (get_or (length_octets r) 1 0) (get_or (length_octets r) 2 0) (get_or (length_octets r) 3 0)
      (vote_stays (take 15 file) place 3 7 11 _ (omega arith) (omega arith) (there 3 (omega arith)) (there 7 (omega arith)) (there 11 (omega arith)))
      (vote_stays (take 15 file) place 4 8 12 _ (omega arith) (omega arith) (there 4 (omega arith)) (there 8 (omega arith)) (there 12 (omega arith)))
      (vote_stays (take 15 file) place 5 9 13 _ (omega arith) (omega arith) (there 5 (omega arith)) (there 9 (omega arith)) (there 13 (omega arith)))
      (vote_stays (take 15 file) place 6 10 14 _ (omega arith) (omega arith) (there 6 (omega arith)) (there 10 (omega arith)) (there 14 (omega arith)))
      ∙ ap Some (from_be_bytes-to_be_bytes_4 (length r) short)

  pub same_size : length (take (length r) (drop 15 file)) ≡ length r
  same_size = length-take-le (length r) (drop 15 file) (omega (arith, long, length-drop 15 file))

  pub still_begins : BeginsWith file (take (length r) (drop 15 file)) (drop (15 + length r) file)
  still_begins = record {
    head = take 15 file;
    split = sym (take-append-drop 15 file) ∙ ap (λ (l : List ℕ). take 15 file ++ l)
        (sym (take-append-drop (length r) (drop 15 file)) ∙ ap (λ (l : List ℕ). take (length r) (drop 15 file) ++ l) (drop-drop (length r) 15 file));
    size = length-take-le 15 file (omega (arith, long));
    gate = opened;
    says = says ∙ ap Some (sym same_size);
  }

  dropped : drop (15 + length r) whole ≡ tail
  dropped = ap (λ (l : List ℕ). drop (15 + length r) l) is ∙ drop_at (block r) tail (15 + length r) block_length

  tail_length : length (drop (15 + length r) file) ≡ length tail
  tail_length = omega (arith, long, length-drop (15 + length r) file)

  after_octet : (k : ℕ) → (15 + length r + k ≡ place → ⊥) → get_or (drop (15 + length r) file) k 0 ≡ get_or tail k 0
  after_octet k nay =
      get_or-drop (15 + length r) file k 0 ∙ turned.others (15 + length r + k) nay ∙ sym (get_or-drop (15 + length r) whole k 0) ∙ ap (λ (l : List ℕ). get_or l k 0) dropped

  -- it was one of the first record
  pub tail_stays : place < 15 + length r → drop (15 + length r) file ≡ tail
  tail_stays lt = same_number_lists (drop (15 + length r) file) tail tail_length (λ k inside. after_octet k (λ e. omega (arith, lt, e)))

  -- or one after it
  pub tail_turned : 15 + length r ≤ place → IsTurned (place - (15 + length r)) tail (drop (15 + length r) file)
  tail_turned le = record { size = tail_length; others = λ i nay. after_octet i (λ e. nay (omega (arith, le, e))) }

  record_octet : (k : ℕ) → k < length r → 15 + length r ≤ place → get_or (drop 15 file) k 0 ≡ get_or r k 0
  record_octet k lt le =
      get_or-drop 15 file k 0 ∙ turned.others (15 + k) (λ e. omega (arith, lt, le, e)) ∙ sym (get_or-drop 15 whole k 0)
      ∙ ap (λ (l : List ℕ). get_or (drop 15 l) k 0) is
      ∙ get_or_append_left r tail 0 k lt

  pub record_stays : 15 + length r ≤ place → take (length r) (drop 15 file) ≡ r
  record_stays le =
      same_number_lists (take (length r) (drop 15 file)) r same_size
      (λ k lt. let here : k < length r = omega (arith, same_size, lt) in get_or-take (length r) (drop 15 file) k 0 here ∙ record_octet k here le)

-- ---- all of them

still_ends : (after file : List ℕ) (place : ℕ) → IsTurned place (shut ++ after) file → Ends file
still_ends after file place turned = λ r rest b.
    let closed : is_open file ≡ false = ap says_open (vote_stays file place 0 1 2 0 (omega arith) (omega arith) (turned.others 0) (turned.others 1) (turned.others 2)) in
    let nay : true ≡ false = sym (begins_open file r rest b) ∙ closed in absurd (cc)

pub one_turned_octet : OneTurnedOctet
one_turned_octet [] after file place short turned =
    ([], record { front = []; end = file; split = refl; read = refl; no_more = still_ends after file place turned }, tt)
one_turned_octet (r ∷ rs) after file place short turned =
    let tail = blocks rs ++ (shut ++ after) in
    let whole = blocks (r ∷ rs) ++ (shut ++ after) in
    let is : whole ≡ block r ++ tail = append_assoc (block r) (blocks rs) (shut ++ after) in
    let first = All-head IsShort r rs short in
    let others = All-tail IsShort r rs short in
    elim (cases_lt place (15 + length r)) [
      | inl here ↦ (
        take (length r) (drop 15 file) ∷ rs,
        stands_more file (take (length r) (drop 15 file)) (drop (15 + length r) file) rs (still_begins r tail whole file place is first turned)
            (subst (λ (l : List ℕ). Stands l rs) (sym (tail_stays r tail whole file place is first turned here)) (written_stands rs after others)),
        (same_size r tail whole file place is first turned, inr refl),
      )
      | inr there ↦
          let le : 15 + length r ≤ place = omega (arith, there) in
          let more = one_turned_octet rs after (drop (15 + length r) file) (place - (15 + length r)) others (tail_turned r tail whole file place is first turned le) in (
            r ∷ more.0,
            stands_more file r (drop (15 + length r) file) more.0
                (subst (λ (l : List ℕ). BeginsWith file l (drop (15 + length r) file)) (record_stays r tail whole file place is first turned le) (still_begins r tail whole file place is first turned)) more.1,
            (refl, inl (refl, more.2)),
          )
    ]
