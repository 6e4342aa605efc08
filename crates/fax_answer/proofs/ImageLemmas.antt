-- Readers of images as they go on, and runs of zero octets as they are counted.
use Rattle.std.proofs.Common.{◌≡◌, ℕ, zero, suc, ◌+◌, min, max, List, [], ◌∷◌, ◌++◌, length, take, drop, get_or, replicate, ◌<◌, ◌≤◌, refl, sym, ◌∙◌, ap, ap₂, subst, arith, append_assoc}
use Rattle.std.proofs.Math.Seq.{take-add}
use Rattle.std.proofs.lemmas.List.{take_more, append-nil, take-append-drop}
use Rattle.std.proofs.lemmas.Simd.{length-chunk, get_or-chunk}
use Rattle.fax_runcodes.specs.Rows.{Elements}
use Rattle.fax_frames.specs.Capabilities.{format_of, coding_of}
use Rattle.fax_pagestore.specs.Readers.{ReaderValue, new_reader}
use Rattle.fax_answer.specs.declared.state.State.{State}
use Rattle.fax_answer.specs.declared.state.State.TheVariants.{Idle, Identify, Listen, Train, Page, Again, Closing}
use Rattle.fax_answer.specs.Images.{run_with, run_after, longest_after, Extends, GoesOn, Feeds, FeedsIn, begun}

-- ZERO OCTETS
pub run_after-append : (run : ℕ) (xs ys : List ℕ) → run_after run (xs ++ ys) ≡ run_after (run_after run xs) ys
run_after-append run [] ys = refl
run_after-append run (x ∷ xs) ys = run_after-append (run_with run x) xs ys

pub longest_after-append : (run longest : ℕ) (xs ys : List ℕ) →
    longest_after run longest (xs ++ ys) ≡ longest_after (run_after run xs) (longest_after run longest xs) ys
longest_after-append run longest [] ys = refl
longest_after-append run longest (x ∷ xs) ys = longest_after-append (run_with run x) (max longest (run_with run x)) xs ys

pub run_more : (run i : ℕ) (xs : List ℕ) → i < length xs → run_after run (take (i + 1) xs) ≡ run_with (run_after run (take i xs)) (get_or xs i 0)
run_more run i xs h = ap (run_after run) (take_more xs i 0 h) ∙ run_after-append run (take i xs) (get_or xs i 0 ∷ [])

pub longest_more : (run longest i : ℕ) (xs : List ℕ) → i < length xs →
    longest_after run longest (take (i + 1) xs) ≡ max (longest_after run longest (take i xs)) (run_with (run_after run (take i xs)) (get_or xs i 0))
longest_more run longest i xs h = ap (longest_after run longest) (take_more xs i 0 h) ∙ longest_after-append run longest (take i xs) (get_or xs i 0 ∷ [])

-- so many more octets
pub run_on : (run place n : ℕ) (xs : List ℕ) → run_after run (take (place + n) xs) ≡ run_after (run_after run (take place xs)) (take n (drop place xs))
run_on run place n xs = ap (run_after run) (take-add place n xs) ∙ run_after-append run (take place xs) (take n (drop place xs))

pub longest_on : (run longest place n : ℕ) (xs : List ℕ) →
    longest_after run longest (take (place + n) xs) ≡ longest_after (run_after run (take place xs)) (longest_after run longest (take place xs)) (take n (drop place xs))
longest_on run longest place n xs = ap (longest_after run longest) (take-add place n xs) ∙ longest_after-append run longest (take place xs) (take n (drop place xs))

-- all octets
pub run_all : (run place : ℕ) (xs : List ℕ) → run_after run xs ≡ run_after (run_after run (take place xs)) (drop place xs)
run_all run place xs = ap (run_after run) (sym (take-append-drop place xs)) ∙ run_after-append run (take place xs) (drop place xs)

pub longest_all : (run longest place : ℕ) (xs : List ℕ) → longest_after run longest xs ≡ longest_after (run_after run (take place xs)) (longest_after run longest (take place xs)) (drop place xs)
longest_all run longest place xs = ap (longest_after run longest) (sym (take-append-drop place xs)) ∙ longest_after-append run longest (take place xs) (drop place xs)

-- octets of which none is 0
abbrev AreNotZero : List ℕ → Type 0
AreNotZero xs = (i : ℕ) → i < length xs → 0 < get_or xs i 0

run_with-other : (run octet : ℕ) → 0 < octet → run_with run octet ≡ 0
run_with-other run zero some = absurd (omega arith)
run_with-other run (suc octet) some = refl

pub run_of_others : (run : ℕ) (xs : List ℕ) → 0 < length xs → AreNotZero xs → run_after run xs ≡ 0
run_of_others run [] some others = absurd (omega arith)
run_of_others run (x ∷ []) some others = run_with-other run x (others 0 (omega arith))
run_of_others run (x ∷ y ∷ xs) some others = run_of_others (run_with run x) (y ∷ xs) (omega arith) (λ i h. others (suc i) (omega arith))

pub longest_of_others : (run longest : ℕ) (xs : List ℕ) → AreNotZero xs → longest_after run longest xs ≡ longest
longest_of_others run longest [] others = refl
longest_of_others run longest (x ∷ xs) others =
    let none : run_with run x ≡ 0 = run_with-other run x (others 0 (omega arith)) in
    longest_of_others (run_with run x) (max longest (run_with run x)) xs (λ i h. others (suc i) (omega arith)) ∙ omega (arith, none)

-- zero octets alone
zeros_are : (xs : List ℕ) → ((i : ℕ) → i < length xs → get_or xs i 0 ≡ 0) → xs ≡ replicate (length xs) 0
zeros_are [] zeros = refl
zeros_are (x ∷ xs) zeros = ap₂ (λ (o : ℕ) (os : List ℕ). o ∷ os) (zeros 0 (omega arith)) (zeros_are xs (λ i h. zeros (suc i) (omega arith)))

run_of_zeros : (n run : ℕ) → run ≤ 65535 → run_after run (replicate n 0) ≡ min (run + n) 65535
run_of_zeros zero run few = omega arith
run_of_zeros (suc n) run few = run_of_zeros n (min (run + 1) 65535) (omega arith) ∙ omega arith

longest_of_zeros : (n run longest : ℕ) → run ≤ 65535 → longest_after run longest (replicate (suc n) 0) ≡ max longest (min (run + suc n) 65535)
longest_of_zeros zero run longest few = omega arith
longest_of_zeros (suc n) run longest few = longest_of_zeros n (min (run + 1) 65535) (max longest (min (run + 1) 65535)) (omega arith) ∙ omega arith

-- A BLOCK of octets, eight of them
pub length-block : (xs : List ℕ) (first : ℕ) → first + 8 ≤ length xs → length (take 8 (drop first xs)) ≡ 8
length-block xs first within = length-chunk first 8 xs within

pub others_in_block : (xs : List ℕ) (first : ℕ) → first + 8 ≤ length xs → ((i : ℕ) → first ≤ i → i < first + 8 → 0 < get_or xs i 0) → AreNotZero (take 8 (drop first xs))
others_in_block xs first within others = λ i h.
    let long = length-block xs first within in
    omega (arith, get_or-chunk first 8 xs i 0 (omega arith), others (first + i) (omega arith) (omega arith))

zeros_in_block : (xs : List ℕ) (first : ℕ) → first + 8 ≤ length xs → ((i : ℕ) → first ≤ i → i < first + 8 → get_or xs i 0 ≡ 0) → take 8 (drop first xs) ≡ replicate 8 0
zeros_in_block xs first within zeros =
    let long = length-block xs first within in
    zeros_are (take 8 (drop first xs)) (λ i h. get_or-chunk first 8 xs i 0 (omega arith) ∙ zeros (first + i) (omega arith) (omega arith))
    ∙ ap (λ (n : ℕ). replicate n 0) long

pub run_of_block : (run first : ℕ) (xs : List ℕ) → run ≤ 65535 → first + 8 ≤ length xs → ((i : ℕ) → first ≤ i → i < first + 8 → get_or xs i 0 ≡ 0)
    → run_after run (take 8 (drop first xs)) ≡ min (run + 8) 65535
run_of_block run first xs few within zeros = ap (run_after run) (zeros_in_block xs first within zeros) ∙ run_of_zeros 8 run few

pub longest_of_block : (run longest first : ℕ) (xs : List ℕ) → run ≤ 65535 → first + 8 ≤ length xs → ((i : ℕ) → first ≤ i → i < first + 8 → get_or xs i 0 ≡ 0)
    → longest_after run longest (take 8 (drop first xs)) ≡ max longest (min (run + 8) 65535)
longest_of_block run longest first xs few within zeros = ap (longest_after run longest) (zeros_in_block xs first within zeros) ∙ longest_of_zeros 7 run longest few

-- READERS that go on
extends_itself : (r : ReaderValue) → Extends r r
extends_itself r = record { format = refl; coding = refl; more = []; rows = sym (append-nil r.rows) }

extends_on : (r s t : ReaderValue) → Extends r s → Extends s t → Extends r t
extends_on r s t a b = record {
  format = b.format ∙ a.format;
  coding = b.coding ∙ a.coding;
  more = a.more ++ b.more;
  rows = b.rows ∙ ap (λ (xs : List Elements). xs ++ b.more) a.rows ∙ append_assoc r.rows a.more b.more;
}

pub goes_itself : (xs : List ReaderValue) → GoesOn xs xs
goes_itself [] = tt
goes_itself (here ∷ before) = ([], here, refl, extends_itself here)

pub goes_same : (xs ys : List ReaderValue) → ys ≡ xs → GoesOn xs ys
goes_same xs ys e = subst (GoesOn xs) (sym e) (goes_itself xs)

-- what goes on goes on further
goes_after : (here now : ReaderValue) (before later ys : List ReaderValue) → Extends here now → GoesOn (later ++ now ∷ before) ys → GoesOn (here ∷ before) ys
goes_after here now before [] ys e g = (g.0, g.1, g.2, extends_on here now g.1 e g.3)
goes_after here now before (l ∷ later) ys e g =
    (g.0 ++ g.1 ∷ later, now, g.2 ∙ sym (append_assoc g.0 (g.1 ∷ later) (now ∷ before)), e)

pub goes_further : (xs ys zs : List ReaderValue) → GoesOn xs ys → GoesOn ys zs → GoesOn xs zs
goes_further [] ys zs a b = tt
goes_further (here ∷ before) ys zs a b = goes_after here a.1 before a.0 zs a.3 (subst (λ (k : List ReaderValue). GoesOn k zs) a.2 b)

goes_with : (r : ReaderValue) (xs : List ReaderValue) → GoesOn xs (r ∷ xs)
goes_with r [] = tt
goes_with r (here ∷ before) = (r ∷ [], here, refl, extends_itself here)

pub goes_begun : (state : State) (xs : List ReaderValue) → GoesOn xs (begun state xs)
goes_begun Idle xs = goes_itself xs
goes_begun Identify xs = goes_itself xs
goes_begun Listen xs = goes_itself xs
goes_begun (Train dcs) xs = goes_itself xs
goes_begun (Page dcs) xs = goes_with (new_reader (format_of dcs) (coding_of dcs)) xs
goes_begun Again xs = goes_itself xs
goes_begun Closing xs = goes_itself xs

goes_fed_page : (piece : List ℕ) (xs ys : List ReaderValue) → Feeds piece xs ys → GoesOn xs ys
goes_fed_page piece [] ys f = tt
goes_fed_page piece (here ∷ before) ys f = ([], f.0, f.1, f.2.extends)

pub goes_fed : (state : State) (piece : List ℕ) (xs ys : List ReaderValue) → FeedsIn state piece xs ys → GoesOn xs ys
goes_fed Idle piece xs ys f = goes_same xs ys f
goes_fed Identify piece xs ys f = goes_same xs ys f
goes_fed Listen piece xs ys f = goes_same xs ys f
goes_fed (Train dcs) piece xs ys f = goes_same xs ys f
goes_fed (Page dcs) piece xs ys f = goes_fed_page piece xs ys f
goes_fed Again piece xs ys f = goes_same xs ys f
goes_fed Closing piece xs ys f = goes_same xs ys f

pub begun_goes : (state : State) (xs old new : List ReaderValue) → xs ≡ old → new ≡ begun state xs → GoesOn old new
begun_goes state xs old new v e = subst (λ (n : List ReaderValue). GoesOn old n) (sym e) (subst (λ (o : List ReaderValue). GoesOn o (begun state xs)) v (goes_begun state xs))
