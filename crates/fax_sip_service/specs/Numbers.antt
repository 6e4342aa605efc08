-- Which calls SIP places: those whose tag has a number that a route takes (this project's profile).
use Rattle.std.specs.Prelude.{ℕ, ◌==◌, nat_lt, Bool, if◌then◌else◌, List, Option, None, Some, is_some}
use Rattle.std.specs.List.{before_first, list_any}
use Rattle.std.specs.Result.{result_ok}
use Rattle.fax_desk.specs.declared.tag.Tag.{Tag}
use Rattle.fax_desk.specs.Tags.{tag_text}
use Rattle.fax_trunks.specs.Numbers.{reading}
use Rattle.fax_trunks.specs.Routes.{fits_of}
use Rattle.fax_trunks.specs.RouteValues.{RouteValue}

-- what stands before the first stroke of a tag, or all of it
abbrev pub before_stroke : List ℕ → List ℕ
before_stroke text = before_first (λ octet. octet == 47) text

-- the number of a tag
abbrev pub number_in : Tag → Option (List ℕ)
number_in tag = result_ok (reading (before_stroke (tag_text tag)))

-- the prefix of some route begins the number
abbrev pub has_route : List RouteValue → List ℕ → Bool
has_route routes number = list_any (λ fit. nat_lt 0 fit) (fits_of routes number)

abbrev pub routed : List RouteValue → Option (List ℕ) → Option (List ℕ)
routed routes None = None
routed routes (Some number) = if has_route routes number then Some number else None

-- THE NUMBER THAT SIP CALLS for a tag: that of the tag, where a route takes it
abbrev pub number_for : List RouteValue → Option Tag → Option (List ℕ)
number_for routes None = None
number_for routes (Some tag) = routed routes (number_in tag)

abbrev pub is_placed : List RouteValue → Option Tag → Bool
is_placed routes tag = is_some (number_for routes tag)
