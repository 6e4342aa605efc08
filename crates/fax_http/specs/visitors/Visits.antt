-- Who looks at a server, place by place, and what a call does with them (this project's profile).
use Rattle.std.specs.Prelude.{◌≡◌, ℕ, zero, suc, Bool, true, false, ◌⊎◌, List, [], ◌∷◌, option_and_then, Option, None, Some}
use Rattle.fax_http.specs.declared.answer.Answer.{Answer}
use Rattle.fax_http.specs.declared.question.Question.{Question}
use Rattle.fax_http.specs.declared.question.Resource.TheVariants.{Health, Metrics, Page, Picture}
use Rattle.fax_http.specs.declared.question.Wanted.{Wanted}
use Rattle.fax_http.specs.declared.question.Wanted.TheVariants.{Refuse, Tell}
use Rattle.fax_http.specs.PicturePaths.{AsksForPath}
use Rattle.fax_http.specs.Connections.{ConnectionValue, Hears, answered_by, nothing_heard, unanswered, written}

-- some octets that came were heard, or none
abbrev pub IsRead : ConnectionValue → ConnectionValue → Type 0
IsRead old new =
    (new ≡ old) ⊎ ((octets : List ℕ) × (asked : Option Question) × Hears octets asked old new)

-- so many octets of the answer were written
abbrev pub IsWritten : ConnectionValue → ConnectionValue → Type 0
IsWritten old new = (count : ℕ) × (new ≡ written count old)

-- a connection was read from, and then written to
pub record IsServed (old new : ConnectionValue) : Type 0 where
  pub heard : ConnectionValue
  pub read : IsRead old heard
  pub write : IsWritten heard new

-- who is at a place was served, and is still there or gone
abbrev pub IsServedPlace : Option ConnectionValue → Option ConnectionValue → Type 0
IsServedPlace old None = Unit {0}
IsServedPlace None (Some new) = ⊥
IsServedPlace (Some old) (Some new) = IsServed old new

-- somebody came, or who was there is there still
abbrev pub IsCame : Option ConnectionValue → Option ConnectionValue → Type 0
IsCame old new = (new ≡ old) ⊎ (new ≡ Some nothing_heard)

-- A place goes on: nobody is there, or one that has said nothing, or who was there and was served.
abbrev pub PlaceGoes : Option ConnectionValue → Option ConnectionValue → Type 0
PlaceGoes old new = IsServedPlace old new ⊎ (new ≡ Some nothing_heard)

-- the visitor at a place asks for this, and was not answered
abbrev pub AsksAt : List (Option ConnectionValue) → ℕ → Question → Type 0
AsksAt [] place question = ⊥
AsksAt (one ∷ others) zero question = option_and_then unanswered one ≡ Some question
AsksAt (one ∷ others) (suc place) question = AsksAt others place question

-- a picture is asked for
abbrev pub is_for : Wanted → Bool
is_for (Refuse why) = false
is_for (Tell Page) = false
is_for (Tell Health) = false
is_for (Tell Metrics) = false
is_for (Tell Picture) = true

abbrev pub is_for_picture : Question → Bool
is_for_picture question = is_for question.wanted

-- who is at a place asked for this path
abbrev pub HasPath : List ℕ → Option ConnectionValue → Type 0
HasPath path None = ⊥
HasPath path (Some connection) = AsksForPath connection.heard path

-- who is at a place was answered, or went
abbrev pub IsAnsweredPlace : Answer → Option ConnectionValue → Option ConnectionValue → Type 0
IsAnsweredPlace answer old None = Unit {0}
IsAnsweredPlace answer None (Some new) = ⊥
IsAnsweredPlace answer (Some old) (Some new) = new ≡ answered_by answer old

-- the one at this place, and no other one
abbrev pub IsAnsweredAt : Answer
    → ℕ → List (Option ConnectionValue) → List (Option ConnectionValue) → Type 0
IsAnsweredAt answer place [] new = new ≡ []
IsAnsweredAt answer place (one ∷ others) [] = ⊥
IsAnsweredAt answer zero (one ∷ others) (new ∷ new_others) =
    IsAnsweredPlace answer one new × (new_others ≡ others)
IsAnsweredAt answer (suc place) (one ∷ others) (new ∷ new_others) =
    (new ≡ one) × IsAnsweredAt answer place others new_others
