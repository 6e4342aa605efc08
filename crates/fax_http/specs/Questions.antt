-- What a request asks for (RFC 9110, 9.3.1 and 9.3.2; RFC 9112, 2 and 3; what is at which path is this project's profile).
use Rattle.std.specs.Prelude.{◌≡◌, ℕ, ◌<◌, ◌≤◌, ◌==◌, ◌⊎◌, ◌||◌, Bool, true, not, bytes_eq, nat_eq, if◌then◌else◌, List, codes, length, position, take, Option, None, Some}
use Rattle.std.specs.List.{starts_with}
use Rattle.httparse.specs.Grammar.{HasNoRequest, NeverHasRequest, ReadsRequest, RequestHead}
use Rattle.httparse.specs.Spans.{RequestExceeds}
use Rattle.fax_http.specs.declared.question.Question.{Question}
use Rattle.fax_http.specs.declared.question.Refusal.{Refusal}
use Rattle.fax_http.specs.declared.question.Refusal.TheVariants.{NotAllowed, NotFound, TooLong, Unreadable}
use Rattle.fax_http.specs.declared.question.Resource.{Resource}
use Rattle.fax_http.specs.declared.question.Resource.TheVariants.{Health, Metrics, Page, Picture}
use Rattle.fax_http.specs.declared.question.Wanted.{Wanted}
use Rattle.fax_http.specs.declared.question.Wanted.TheVariants.{Refuse, Tell}
use Rattle.fax_http.specs.declared.reading.TheConstants.{MOST_FIELDS, MOST_HEAD}

-- where the query of a target begins: at the first question mark (RFC 3986, 3.4)
abbrev pub query_at : List ℕ → Option ℕ
query_at target = position (λ octet. octet == 63) target

abbrev pub before : List ℕ → Option ℕ → List ℕ
before target None = target
before target (Some place) = take place target

-- the path of a target: what stands before its query
abbrev pub path_of : List ℕ → List ℕ
path_of target = before target (query_at target)

-- what is at a path
unfoldable pub resource_at : List ℕ → Option Resource
resource_at path =
    if bytes_eq path (codes "/") then Some Page else
    if bytes_eq path (codes "/healthz") then Some Health else
    if bytes_eq path (codes "/metrics") then Some Metrics else
    if starts_with nat_eq path (codes "/undelivered/") then Some Picture else None

abbrev pub is_get : List ℕ → Bool
is_get method = bytes_eq method (codes "GET")

abbrev pub is_head : List ℕ → Bool
is_head method = bytes_eq method (codes "HEAD")

-- what a method that is allowed gets at a path, and one that is not
abbrev pub wanted_by : Bool → Option Resource → Wanted
wanted_by is_allowed None = Refuse NotFound
wanted_by is_allowed (Some resource) = if is_allowed then Tell resource else Refuse NotAllowed

-- What a method asks for at a target: what is there, by GET and HEAD alone. The answer to HEAD has no body.
abbrev pub asked_by : List ℕ → List ℕ → Question
asked_by method target =
    record {
      wanted = wanted_by (is_get method || is_head method) (resource_at (path_of target));
      has_body = not (is_head method);
    }

-- THE QUESTION OF A HEAD.
abbrev pub question_of : RequestHead → Question
question_of head = asked_by head.method head.target

-- a request that is refused before its method is known
abbrev pub refused : Refusal → Question
refused why = record { wanted = Refuse why; has_body = true }

-- a whole head stands at the front, and this is its question
pub record IsOfHead (octets : List ℕ) (question : Question) : Type 0 where
  pub head : RequestHead
  pub rest : List ℕ
  pub reads : ReadsRequest octets head rest
  pub is : question ≡ question_of head

-- no octets that may follow make a head of them
pub record IsUnreadable (octets : List ℕ) (question : Question) : Type 0 where
  pub never : NeverHasRequest octets
  pub is : question ≡ refused Unreadable

-- a head has more fields than are taken, or is not whole after as many octets as are taken
pub record IsTooLong (octets : List ℕ) (question : Question) : Type 0 where
  pub long : RequestExceeds MOST_FIELDS octets ⊎ (HasNoRequest octets × (MOST_HEAD ≤ length octets))
  pub is : question ≡ refused TooLong

-- THE QUESTION THAT OCTETS ASK.
abbrev pub Asks : List ℕ → Question → Type 0
Asks octets question =
    IsOfHead octets question ⊎ IsUnreadable octets question ⊎ IsTooLong octets question
