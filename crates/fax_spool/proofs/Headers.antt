-- How headers are read: by the value that two of three copies have.
use Rattle.std.proofs.Common.{◌≡◌, inl, inr, ℕ, ◌+◌, ◌<◌, ◌≤◌, Bool, true, false, Option, Some, None, List, [], ◌∷◌, ◌++◌, length, take, drop, get_or, nat_eq, refl, sym, ◌∙◌, ap, subst, arith, append_assoc, length-append, length-drop, take-append-drop, if◌then◌else◌, ◌||◌}
use Rattle.std.proofs.lemmas.List.{take_at, drop_at, drop-append-le, get_or_append_left, length-take-le, append-nil}
use Rattle.std.proofs.lemmas.List.Elements.{All-head, All-tail}
use Rattle.std.proofs.lemmas.Nat.{from_be_bytes-to_be_bytes_4}
use Rattle.std.proofs.lemmas.Bool.{cases_eq, eq-eqb}
use Rattle.std.proofs.lemmas.Bool.Decides.{eqb_tells}
use Rattle.std.specs.List.{All}
use Rattle.std.specs.Int.{w32, from_be_bytes}
use Rattle.fax_spool.specs.Records.{AreRead, BeginsWith, Ends, IsShort, Stands, blocks, body, is_open, length_in, length_octets, lengths, number_of, says_open, vote_at, voted}

-- ---- votes

is_same : (x : ℕ) → nat_eq x x ≡ true
is_same x = eq-eqb x x refl

is_other : (x y : ℕ) → (x ≡ y → ⊥) → nat_eq x y ≡ false
is_other x y nay = elim (eqb_tells x y) [
  | inl is ↦ absurd (nay is.1)
  | inr is ↦ is.0
]

same_vote : (a b c x y z : ℕ) → a ≡ x → b ≡ y → c ≡ z → voted a b c ≡ voted x y z
same_vote a b c x y z p q r = ap (λ (t : ℕ). voted t b c) p ∙ ap (λ (t : ℕ). voted x t c) q ∙ ap (λ (t : ℕ). voted x y t) r

-- one of three copies is anything
third_any : (x z : ℕ) → voted x x z ≡ Some x
third_any x z = ap (λ (b : Bool). if b || nat_eq x z then Some x else (if nat_eq x z then Some x else None)) (is_same x)

same_of : (x : ℕ) → voted x x x ≡ Some x
same_of x = third_any x x

second_any : (x y : ℕ) → voted x y x ≡ Some x
second_any x y = elim (cases_eq x y) [
  | inl is ↦ subst (λ (t : ℕ). voted x t x ≡ Some x) is (third_any x x)
  | inr nay ↦
      ap (λ (b : Bool). if b || nat_eq x x then Some x else (if nat_eq y x then Some y else None)) (is_other x y nay)
      ∙ ap (λ (b : Bool). if b then Some x else (if nat_eq y x then Some y else None)) (is_same x)
]

first_any : (y x : ℕ) → voted y x x ≡ Some x
first_any y x = elim (cases_eq y x) [
  | inl is ↦ subst (λ (t : ℕ). voted t x x ≡ Some x) (sym is) (third_any x x)
  | inr nay ↦
      ap (λ (b : Bool). if b || b then Some y else (if nat_eq x x then Some x else None)) (is_other y x nay)
      ∙ ap (λ (b : Bool). if b then Some x else None) (is_same x)
]

-- Of three places at most one was turned: they are read as before.
pub vote_stays :
    (other : List ℕ) (place i j k x : ℕ) → i < j → j < k → ((i ≡ place → ⊥) → get_or other i 0 ≡ x) → ((j ≡ place → ⊥) → get_or other j 0 ≡ x) → ((k ≡ place → ⊥) → get_or other k 0 ≡ x)
    → vote_at other i j k ≡ Some x
vote_stays other place i j k x ij jk at_i at_j at_k = elim (cases_eq i place) [
  | inl here ↦
      same_vote _ _ _ (get_or other i 0) x x refl (at_j (λ there. omega (arith, here, there, ij))) (at_k (λ there. omega (arith, here, there, ij, jk))) ∙ first_any (get_or other i 0) x
  | inr no_i ↦ elim (cases_eq j place) [
    | inl here ↦ same_vote _ _ _ x (get_or other j 0) x (at_i no_i) refl (at_k (λ there. omega (arith, here, there, jk))) ∙ second_any x (get_or other j 0)
    | inr no_j ↦ same_vote _ _ _ x x (get_or other k 0) (at_i no_i) (at_j no_j) refl ∙ third_any x (get_or other k 0)
  ]
]

-- ---- a header

pub open_is : (head : List ℕ) → vote_at head 0 1 2 ≡ Some 1 → is_open head ≡ true
open_is head v = ap says_open v

pub length_is :
    (head : List ℕ) (a b c d : ℕ) → vote_at head 3 7 11 ≡ Some a → vote_at head 4 8 12 ≡ Some b → vote_at head 5 9 13 ≡ Some c → vote_at head 6 10 14 ≡ Some d → length_in head ≡ Some (from_be_bytes w32 (a ∷ b ∷ c ∷ d ∷ []))
length_is head a b c d p q r s =
    ap (λ (o : Option ℕ). number_of o (vote_at head 4 8 12) (vote_at head 5 9 13) (vote_at head 6 10 14)) p
    ∙ ap (λ (o : Option ℕ). number_of (Some a) o (vote_at head 5 9 13) (vote_at head 6 10 14)) q
    ∙ ap (λ (o : Option ℕ). number_of (Some a) (Some b) o (vote_at head 6 10 14)) r
    ∙ ap (λ (o : Option ℕ). number_of (Some a) (Some b) (Some c) o) s

-- three octets
three_octets : (P : List ℕ → Type 0) → ((a b c : ℕ) → P (a ∷ b ∷ c ∷ [])) → (g : List ℕ) → length g ≡ 3 → P g
three_octets P p [] three = absurd (omega (arith, three))
three_octets P p (a ∷ []) three = absurd (omega (arith, three))
three_octets P p (a ∷ b ∷ []) three = absurd (omega (arith, three))
three_octets P p (a ∷ b ∷ c ∷ []) three = p a b c
three_octets P p (a ∷ b ∷ c ∷ d ∷ g) three = absurd (omega (arith, three))

-- the gate is read of the first three octets
pub open_front : (head rest : List ℕ) → 3 ≤ length head → is_open (head ++ rest) ≡ is_open head
open_front head rest long =
    ap says_open
    (same_vote _ _ _ (get_or head 0 0) (get_or head 1 0) (get_or head 2 0) (get_or_append_left head rest 0 0 (omega (arith, long))) (get_or_append_left head rest 0 1 (omega (arith, long))) (get_or_append_left head rest 0 2 (omega (arith, long))))

-- and the length of those after them
length_after : (rest gate other : List ℕ) → length gate ≡ 3 → length other ≡ 3 → length_in (gate ++ rest) ≡ length_in (other ++ rest)
length_after rest gate other =
    three_octets (λ (g : List ℕ). length other ≡ 3 → length_in (g ++ rest) ≡ length_in (other ++ rest))
    (λ a b c. three_octets (λ (o : List ℕ). length_in ((a ∷ b ∷ c ∷ []) ++ rest) ≡ length_in (o ++ rest)) (λ x y z. refl) other) gate

written_length : (a b c : ℕ) (r : List ℕ) → IsShort r → length_in (a ∷ b ∷ c ∷ lengths r) ≡ Some (length r)
written_length a b c r short =
    length_is (a ∷ b ∷ c ∷ lengths r) (get_or (length_octets r) 0 0) (get_or (length_octets r) 1 0) (get_or (length_octets r) 2 0) (get_or (length_octets r) 3 0)
    (same_of (get_or (length_octets r) 0 0)) (same_of (get_or (length_octets r) 1 0)) (same_of (get_or (length_octets r) 2 0)) (same_of (get_or (length_octets r) 3 0))
    ∙ ap Some (from_be_bytes-to_be_bytes_4 (length r) short)

-- a record as it is written, after a gate that is read as open
pub begins_written : (gate r rest : List ℕ) → length gate ≡ 3 → is_open gate ≡ true → IsShort r → BeginsWith (gate ++ (body r ++ rest)) r rest
begins_written gate r rest three open_gate short =
    three_octets (λ (g : List ℕ). is_open g ≡ true → BeginsWith (g ++ (body r ++ rest)) r rest)
    (λ a b c is. record {
      head = a ∷ b ∷ c ∷ lengths r;
      split = ap (λ (l : List ℕ). a ∷ b ∷ c ∷ l) (append_assoc (lengths r) r rest);
      size = refl;
      gate = is;
      says = written_length a b c r short;
    }) gate three open_gate

-- ---- what octets begin with

pub head_is : (octets r rest : List ℕ) (b : BeginsWith octets r rest) → take 15 octets ≡ b.head
head_is octets r rest b = ap (λ (l : List ℕ). take 15 l) b.split ∙ take_at b.head (r ++ rest) 15 b.size

pub after_head : (octets r rest : List ℕ) (b : BeginsWith octets r rest) → drop 15 octets ≡ r ++ rest
after_head octets r rest b = ap (λ (l : List ℕ). drop 15 l) b.split ∙ drop_at b.head (r ++ rest) 15 b.size

pub long_enough : (octets r rest : List ℕ) → BeginsWith octets r rest → 15 + length r ≤ length octets
long_enough octets r rest b = omega (arith, ap length b.split, length-append b.head (r ++ rest), length-append r rest, b.size)

pub begins_open : (octets r rest : List ℕ) → BeginsWith octets r rest → is_open octets ≡ true
begins_open octets r rest b = ap is_open b.split ∙ open_front b.head (r ++ rest) (omega (arith, b.size)) ∙ b.gate

-- the octets may go on
pub begins_more : (octets r rest more : List ℕ) → BeginsWith octets r rest → BeginsWith (octets ++ more) r (rest ++ more)
begins_more octets r rest more b = record {
  head = b.head;
  split = ap (λ (l : List ℕ). l ++ more) b.split ∙ append_assoc b.head (r ++ rest) more ∙ ap (λ (l : List ℕ). b.head ++ l) (append_assoc r rest more);
  size = b.size;
  gate = b.gate;
  says = b.says;
}

-- another open gate changes nothing
pub begins_regated : (gate other after r rest : List ℕ) → length gate ≡ 3 → length other ≡ 3 → is_open other ≡ true → BeginsWith (gate ++ after) r rest → BeginsWith (other ++ after) r rest
begins_regated gate other after r rest three threes open_gate b =
    let back : after ≡ drop 3 b.head ++ (r ++ rest) =
    sym (drop_at gate after 3 three) ∙ ap (λ (l : List ℕ). drop 3 l) b.split ∙ drop-append-le 3 b.head (r ++ rest) (omega (arith, b.size)) in
    record {
      head = other ++ drop 3 b.head;
      split = ap (λ (l : List ℕ). other ++ l) back ∙ sym (append_assoc other (drop 3 b.head) (r ++ rest));
      size = omega (arith, length-append other (drop 3 b.head), threes, length-drop 3 b.head, b.size);
      gate = open_front other (drop 3 b.head) (omega (arith, threes)) ∙ open_gate;
      says =
          length_after (drop 3 b.head) other (take 3 b.head) threes (length-take-le 3 b.head (omega (arith, b.size)))
          ∙ ap length_in (take-append-drop 3 b.head) ∙ b.says;
    }

pub ends_shut : (gate after : List ℕ) → length gate ≡ 3 → is_open gate ≡ false → Ends (gate ++ after)
ends_shut gate after three closed = λ r rest b.
    let nay : true ≡ false = sym (begins_open (gate ++ after) r rest b) ∙ open_front gate after (omega (arith, three)) ∙ closed in absurd (cc)

-- too short for a header
pub ends_short : (end : List ℕ) → length end < 15 → Ends end
ends_short end lt = λ r rest b. absurd (omega (arith, lt, long_enough end r rest b))

-- ---- records one after the other

pub read_append : (a b : List ℕ) (rs qs : List (List ℕ)) → AreRead a rs → AreRead b qs → AreRead (a ++ b) (rs ++ qs)
read_append a b [] qs is more = subst (λ (l : List ℕ). AreRead (l ++ b) qs) (sym is) more
read_append a b (r ∷ rs) qs is more = (is.0 ++ b, begins_more a r is.0 b is.1, read_append is.0 b rs qs is.2 more)

pub read_written : (rs : List (List ℕ)) → All IsShort rs → AreRead (blocks rs) rs
read_written [] short = refl
read_written (r ∷ rs) short = (blocks rs, begins_written (1 ∷ 1 ∷ 1 ∷ []) r (blocks rs) refl refl (All-head IsShort r rs short), read_written rs (All-tail IsShort r rs short))

pub read_push : (front octets after r rest : List ℕ) (rs : List (List ℕ)) → AreRead front rs → octets ≡ front ++ after → BeginsWith after r rest → (more : List ℕ) × (octets ≡ more ++ rest) × AreRead more (rs ++ r ∷ [])
read_push front octets after r rest rs read is b = (
  front ++ (b.head ++ r),
  is ∙ ap (λ (l : List ℕ). front ++ l) (b.split ∙ sym (append_assoc b.head r rest)) ∙ sym (append_assoc front (b.head ++ r) rest),
  read_append front (b.head ++ r) rs (r ∷ []) read ([], record { head = b.head; split = ap (λ (l : List ℕ). b.head ++ l) (sym (append-nil r)); size = b.size; gate = b.gate; says = b.says }, refl),
)

pub stands_shut : (front gate after file : List ℕ) (rs : List (List ℕ)) → AreRead front rs → length gate ≡ 3 → is_open gate ≡ false → file ≡ front ++ (gate ++ after) → Stands file rs
stands_shut front gate after file rs read three closed is = record { front = front; end = gate ++ after; split = is; read = read; no_more = ends_shut gate after three closed }

-- ---- a file stands for one list of records

pub some_back : (n m : ℕ) → Some n ≡ Some m → n ≡ m
some_back n m same = cc

same_length : (octets r q x y : List ℕ) → BeginsWith octets r x → BeginsWith octets q y → length r ≡ length q
same_length octets r q x y a b = some_back (length r) (length q) (sym a.says ∙ ap length_in (sym (head_is octets r x a) ∙ head_is octets q y b) ∙ b.says)

same_first : (octets r q x y : List ℕ) → BeginsWith octets r x → BeginsWith octets q y → r ≡ q
same_first octets r q x y a b =
    sym (take_at r x (length r) refl) ∙ ap (λ (l : List ℕ). take (length r) l) (sym (after_head octets r x a) ∙ after_head octets q y b) ∙ take_at q y (length r) (sym (same_length octets r q x y a b))

same_after : (octets r q x y : List ℕ) → BeginsWith octets r x → BeginsWith octets q y → x ≡ y
same_after octets r q x y a b =
    sym (drop_at r x (length r) refl) ∙ ap (λ (l : List ℕ). drop (length r) l) (sym (after_head octets r x a) ∙ after_head octets q y b) ∙ drop_at q y (length r) (sym (same_length octets r q x y a b))

begins_here : (file octets r rest more : List ℕ) → file ≡ octets ++ more → BeginsWith octets r rest → BeginsWith file r (rest ++ more)
begins_here file octets r rest more is b = subst (λ (l : List ℕ). BeginsWith l r (rest ++ more)) (sym is) (begins_more octets r rest more b)

unique_parts : (rs qs : List (List ℕ)) (file a b x y : List ℕ) → file ≡ a ++ x → file ≡ b ++ y → AreRead a rs → AreRead b qs → Ends x → Ends y → rs ≡ qs
unique_parts [] [] file a b x y here there ra rb ex ey = refl
unique_parts [] (q ∷ qs) file a b x y here there ra rb ex ey =
    absurd (ex q (rb.0 ++ y) (subst (λ (l : List ℕ). BeginsWith l q (rb.0 ++ y)) (here ∙ ap (λ (l : List ℕ). l ++ x) ra) (begins_here file b q rb.0 y there rb.1)))
unique_parts (r ∷ rs) [] file a b x y here there ra rb ex ey =
    absurd (ey r (ra.0 ++ x) (subst (λ (l : List ℕ). BeginsWith l r (ra.0 ++ x)) (there ∙ ap (λ (l : List ℕ). l ++ y) rb) (begins_here file a r ra.0 x here ra.1)))
unique_parts (r ∷ rs) (q ∷ qs) file a b x y here there ra rb ex ey =
    let one = begins_here file a r ra.0 x here ra.1 in
    let other = begins_here file b q rb.0 y there rb.1 in
    let first : r ≡ q = same_first file r q (ra.0 ++ x) (rb.0 ++ y) one other in
    let after : ra.0 ++ x ≡ rb.0 ++ y = same_after file r q (ra.0 ++ x) (rb.0 ++ y) one other in
    let more : rs ≡ qs = unique_parts rs qs (ra.0 ++ x) ra.0 rb.0 x y refl after ra.2 rb.2 ex ey in
    ap (λ (l : List ℕ). l ∷ rs) first ∙ ap (λ (l : List (List ℕ)). q ∷ l) more

pub unique : (file : List ℕ) (rs qs : List (List ℕ)) → Stands file rs → Stands file qs → rs ≡ qs
unique file rs qs a b = unique_parts rs qs file a.front b.front a.end b.end a.split b.split a.read b.read a.no_more b.no_more
