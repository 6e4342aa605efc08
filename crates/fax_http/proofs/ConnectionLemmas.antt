-- What a connection heard.
use Rattle.std.proofs.Common.{◌≡◌, ℕ, ◌+◌, ◌-◌, ◌<◌, ◌≤◌, Bool, false, is_some, List, ◌++◌, length, take, Option, None, Some, IfNone, IfSome, refl, sym, ap, ◌∙◌, arith}
use Rattle.std.proofs.Math.Seq.{take-append-add}
use Rattle.httparse.specs.Grammar.{HasNoRequest, MayBecomeRequest}
use Rattle.fax_http.specs.declared.question.Question.{Question}
use Rattle.fax_http.specs.declared.reading.TheConstants.{MOST_HEAD}
use Rattle.fax_http.specs.Connections.{ConnectionValue, Hears, HearsMore}
use Rattle.fax_http.specs.Questions.{Asks}

all_taken : (heard octets : List ℕ) (room : ℕ) → length heard + room ≡ 8192 → heard ++ take room octets ≡ take 8192 (heard ++ octets)
all_taken heard octets room is = sym (take-append-add heard octets room) ∙ ap (λ (n : ℕ). take n (heard ++ octets)) is

-- octets came before anything was asked for
pub heard_more : (heard octets all : List ℕ) (room : ℕ) (before asked : Option Question) (is_answered : Bool) (left : List ℕ)
    → length heard + room ≡ 8192 → all ≡ heard ++ take room octets → is_some before ≡ false
    → IfSome asked (λ question. Asks all question) → IfNone asked (HasNoRequest all) → IfNone asked (MayBecomeRequest all) → IfNone asked (length all < MOST_HEAD)
    → Hears octets asked (record { heard = heard; question = before; is_answered = is_answered; left = left }) (record { heard = all; question = asked; is_answered = is_answered; left = left })
heard_more heard octets all room None None is_answered left fits is unasked asks none may short =
    record { all = all; are = is ∙ all_taken heard octets room fits; asks = record { none = none; may = may; room = short }; same = refl }
heard_more heard octets all room None (Some question) is_answered left fits is unasked asks none may short =
    record { all = all; are = is ∙ all_taken heard octets room fits; asks = asks; same = refl }
heard_more heard octets all room (Some question) asked is_answered left fits is unasked asks none may short = cc
