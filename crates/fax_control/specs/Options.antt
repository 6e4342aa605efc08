-- Words that may be there, and what is known of those that stand after a word that was looked for and is not there.
use Rattle.std.specs.Prelude.{ℕ, List, codes, ◌⊎◌, Option, option_map, IfSome}
use Rattle.std.specs.Borrow.{Bor}
use Rattle.fax_control.specs.Words.{BeginsWith}

-- the text that is there, if one is
abbrev pub text_of : Option (Bor (List ℕ)) → Option (List ℕ)
text_of found = option_map (λ text. text.now) found

-- the word begins as an option does
abbrev pub IsOption : List ℕ → Type 0
IsOption word = BeginsWith (codes "redundancy=") word ⊎ BeginsWith (codes "octets=") word

-- what follows does not begin with this front
abbrev pub StartsOtherwise : List ℕ → Option (List ℕ) → Type 0
StartsOtherwise front rest = IfSome rest (λ text. ¬ (BeginsWith front text))

-- what follows begins as no option does
abbrev pub IsNoOption : Option (List ℕ) → Type 0
IsNoOption rest =
    StartsOtherwise (codes "redundancy=") rest × StartsOtherwise (codes "octets=") rest

-- what follows begins with an option, if there is anything: a tag could not stand there
abbrev pub MayFollowNoTag : Option (List ℕ) → Type 0
MayFollowNoTag rest = IfSome rest IsOption
