-- The parts of a value, one by one.
use Rattle.std.proofs.Common.{◌≡◌, ℕ, suc, List, ◌∷◌, length, Bor, Option, None, Some, sym, ◌∙◌, ap}
use Rattle.std.specs.List.{cons_option, filter_map}
use Rattle.fax_sip.specs.Fields.{first_of}
use Rattle.fax_sip.specs.Parameters.{parameter_value}
use Rattle.fax_sip.specs.Texts.{parts_left, parts_of}

-- how much is left
abbrev pub octets_left : Option (Bor (List ℕ)) → ℕ
octets_left None = 0
octets_left (Some text) = suc (length text.now)

-- the first parameter of a name in what is left
abbrev pub found_in : List ℕ → ℕ → Option (List ℕ) → Option (List ℕ)
found_in name separator rest = first_of (filter_map (parameter_value name) (parts_left separator rest))

pub found_here : (name : List ℕ) (separator : ℕ) (text part value : List ℕ) (rest : Option (List ℕ)) → parts_of separator text ≡ part ∷ parts_left separator rest → Some value ≡ parameter_value name part
    → Some value ≡ found_in name separator (Some text)
found_here name separator text part value rest parts e =
    sym (ap (λ ps. first_of (filter_map (parameter_value name) ps)) parts ∙ ap (λ found. first_of (cons_option found (filter_map (parameter_value name) (parts_left separator rest)))) (sym e))

pub found_later : (name : List ℕ) (separator : ℕ) (text part : List ℕ) (rest : Option (List ℕ)) → parts_of separator text ≡ part ∷ parts_left separator rest → None ≡ parameter_value name part
    → found_in name separator rest ≡ found_in name separator (Some text)
found_later name separator text part rest parts e =
    sym (ap (λ ps. first_of (filter_map (parameter_value name) ps)) parts ∙ ap (λ found. first_of (cons_option found (filter_map (parameter_value name) (parts_left separator rest)))) (sym e))
