-- Blocks of packets.
use Rattle.std.proofs.Common.{◌≡◌, ℕ, ◌+◌, ◌*◌, ◌-◌, ◌<◌, ◌≤◌, min, List, [], ◌∷◌, ◌++◌, length, take, drop, refl, sym, subst, ◌∙◌, Option, Some, None, ap, arith, append_assoc, length-append, length-drop}
use Rattle.std.proofs.lemmas.List.{append-nil, take-append-drop, drop-drop, length-take}
use Rattle.std.proofs.lemmas.Grind.{flat_map-append}
use Rattle.std.specs.Borrow.{Bor}
use Rattle.std.specs.Iterator.{YieldsFirstRef}
use Rattle.fax_udptl.specs.Reading.{AreBlocks, packets_of}

-- one place further on
stepped : (r : Option (Bor (List ℕ))) (left after : List (List ℕ)) → YieldsFirstRef {S = List (List ℕ)} (λ s. s) left r after → after ≡ drop 1 left
stepped None left after h = h.1 ∙ sym (ap (λ (xs : List (List ℕ)). drop 1 xs) h.0)
stepped (Some x) left after h = sym (ap (λ (xs : List (List ℕ)). drop 1 xs) h)

pub further : (r : Option (Bor (List ℕ))) (n : ℕ) (left after all : List (List ℕ)) → left ≡ drop n all → YieldsFirstRef {S = List (List ℕ)} (λ s. s) left r after → after ≡ drop (n + 1) all
further r n left after all here h = stepped r left after h ∙ ap (λ (xs : List (List ℕ)). drop 1 xs) here ∙ drop-drop 1 n all

-- a list of length 0
pub none_there : (xs : List (List ℕ)) → length xs ≡ 0 → xs ≡ []
none_there [] h = refl
none_there (x ∷ xs) h = cc

-- one block more after the others
pub one_block_more : (blocks : List (List (List ℕ))) (block : List (List ℕ)) → packets_of (blocks ++ block ∷ []) ≡ packets_of blocks ++ block
one_block_more blocks block = flat_map-append (λ (b : List (List ℕ)). b) blocks (block ∷ []) ∙ ap (λ (ps : List (List ℕ)). packets_of blocks ++ ps) (append-nil block)

pub blocks_and_one : (blocks : List (List (List ℕ))) (block : List (List ℕ)) → AreBlocks blocks → 0 < length block → length block ≤ 64 → AreBlocks (blocks ++ block ∷ [])
blocks_and_one [] block are some few = ((some, few), tt)
blocks_and_one (b ∷ blocks) block are some few = (are.0, blocks_and_one blocks block are.1 some few)

pub blocks_before : (blocks : List (List (List ℕ))) (block : List (List ℕ)) → AreBlocks (blocks ++ block ∷ []) → AreBlocks blocks
blocks_before [] block are = tt
blocks_before (b ∷ blocks) block are = (are.0, blocks_before blocks block are.1)

pub last_block : (blocks : List (List (List ℕ))) (block : List (List ℕ)) → AreBlocks (blocks ++ block ∷ []) → (0 < length block) × (length block ≤ 64)
last_block [] block are = are.0
last_block (b ∷ blocks) block are = last_block blocks block are.1

-- one block more, taken off the front of the rest
pub all_in_blocks : (blocks after : List (List (List ℕ))) (block rest others all : List (List ℕ)) → after ≡ blocks ++ block ∷ [] → block ≡ take 64 rest → others ≡ drop 64 rest
    → packets_of blocks ++ rest ≡ all → packets_of after ++ others ≡ all
all_in_blocks blocks after block rest others all a b o h =
    ap (λ (bs : List (List (List ℕ))). packets_of bs ++ others) a
    ∙ ap (λ (ps : List (List ℕ)). ps ++ others) (one_block_more blocks block)
    ∙ append_assoc (packets_of blocks) block others
    ∙ ap (λ (ps : List (List ℕ)). packets_of blocks ++ ps)
    (ap (λ (ps : List (List ℕ)). ps ++ others) b ∙ ap (λ (ps : List (List ℕ)). take 64 rest ++ ps) o ∙ take-append-drop 64 rest)
    ∙ h

pub more_blocks : (blocks after : List (List (List ℕ))) (block rest : List (List ℕ)) → after ≡ blocks ++ block ∷ [] → block ≡ take 64 rest → 0 < length rest
    → AreBlocks blocks → AreBlocks after
more_blocks blocks after block rest a b some are =
    let count : length block ≡ min 64 (length rest) = ap length b ∙ length-take 64 rest in
    let P : List (List (List ℕ)) → Type 0 = AreBlocks in
    subst P (sym a) (blocks_and_one blocks block are (omega arith) (omega arith))

pub fewer_left : (rest others : List (List ℕ)) → others ≡ drop 64 rest → 0 < length rest → length others < length rest
fewer_left rest others o some = let count : length others ≡ length rest - 64 = ap length o ∙ length-drop 64 rest in omega arith

pub few_blocks : (blocks after : List (List (List ℕ))) (block rest others : List (List ℕ)) → after ≡ blocks ++ block ∷ [] → others ≡ drop 64 rest → 0 < length rest
    → length rest + 64 * length blocks ≤ 4096 → length others + 64 * length after ≤ 4096
few_blocks blocks after block rest others a o some h =
    let count : length others ≡ length rest - 64 = ap length o ∙ length-drop 64 rest in
    let blocks_count : length after ≡ length blocks + 1 = ap length a ∙ length-append blocks (block ∷ []) in
    omega arith
