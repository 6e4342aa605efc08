-- TALES: what is told of an event, and the lines that tell it at a moment. (This project's profile.)
use Rattle.std.specs.Prelude.{ℕ, ◌-◌, List, [], ◌∷◌, ◌++◌, codes, decimal, flat_map, length, replicate}
use Rattle.fax_descriptions.specs.declared.lane.Lane.{Lane}
use Rattle.fax_descriptions.specs.declared.lane.Lane.TheVariants.{FromCaller, ToCaller, ToCalled, FromCalled, Inside}
use Rattle.fax_descriptions.specs.Tellings.{Description}

-- a thing that happened in the gateway itself
abbrev pub inside : List ℕ → Description
inside words = record { lane = Inside; words = words }

-- the last thing that is told goes on with more words; where nothing is, these are told, of the gateway itself
abbrev pub last_with : (more : List ℕ) → List Description → List Description
last_with more [] = inside more ∷ []
last_with more (last ∷ []) = record { lane = last.lane; words = last.words ++ more } ∷ []
last_with more (telling ∷ next ∷ tellings) = telling ∷ last_with more (next ∷ tellings)

-- the picture of where a thing happened: the two legs side by side, the gateway between them
abbrev pub lane_picture : Lane → List ℕ
lane_picture FromCaller = codes "caller --> gateway           "
lane_picture ToCaller = codes "caller <-- gateway           "
lane_picture ToCalled = codes "           gateway --> called"
lane_picture FromCalled = codes "           gateway <-- called"
lane_picture Inside = codes "           gateway           "

-- and its name
abbrev pub lane_name : Lane → List ℕ
lane_name FromCaller = codes "FromCaller"
lane_name ToCaller = codes "ToCaller"
lane_name ToCalled = codes "ToCalled"
lane_name FromCalled = codes "FromCalled"
lane_name Inside = codes "Inside"

-- a moment in milliseconds, in decimal, with spaces after it up to the tenth column, one at least
abbrev pub moment_text : ℕ → List ℕ
moment_text moment = decimal moment ++ (replicate (9 - length (decimal moment)) 32 ++ 32 ∷ [])

-- the line that tells a thing at a moment: the moment, where it happened, and what
abbrev pub line_text : (moment : ℕ) → Description → List ℕ
line_text moment telling =
    moment_text moment ++ (lane_picture telling.lane ++ (codes "  " ++ telling.words))

-- the lines that tell these things at a moment, and nothing else
abbrev pub paragraph_text : (moment : ℕ) → List Description → List ℕ
paragraph_text moment tellings = flat_map (λ telling. line_text moment telling ++ 10 ∷ []) tellings
