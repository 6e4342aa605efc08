-- Where an EOL stands in bits (ITU-T T.4, 4.1.2).
use Rattle.std.specs.Prelude.{ℕ, ◌≡◌, ◌<◌, ◌≤◌, ◌%◌, Bool, List, ◌++◌, length}
use Rattle.fax_runcodes.specs.declared.format.Coding.{Coding}
use Rattle.fax_pagestore.specs.PageTexts.{end_of_line, IsTag}

-- somewhere in these bits an EOL stands: 11 zeros and a 1
abbrev pub HoldsEol : List Bool → Type 0
HoldsEol bits = (before rest : List Bool) × (bits ≡ before ++ (end_of_line ++ rest))

-- nowhere in these bits an EOL stands with its tag after it
abbrev pub HoldsNoTaggedEol : Coding → List Bool → Type 0
HoldsNoTaggedEol coding bits = (tag : Bool) (before tag_text rest : List Bool)
    → IsTag coding tag tag_text → bits ≡ before ++ (end_of_line ++ (tag_text ++ rest)) → ⊥

-- in bits no EOL begins before those that are left, whatever follows
abbrev pub BeginNoEol : (before left : List Bool) → Type 0
BeginNoEol before left = (more front rest : List Bool)
    → before ++ (left ++ more) ≡ front ++ (end_of_line ++ rest) → length before ≤ length front

-- An octet does not count as an EOL, before this one: it is not 0, and where it ends with four zeros the octet after does not
-- begin with four. Each EOL has one that counts, wherever its 11 zeros begin (ITU-T T.4, 4.1.2).
abbrev pub CountsNot : (octet after : ℕ) → Type 0
CountsNot octet after = (0 < octet) × (octet % 16 ≡ 0 → 16 ≤ after)
