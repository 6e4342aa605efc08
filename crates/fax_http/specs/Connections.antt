-- A connection as it is seen, and what a call does with it (RFC 9112, 9.6: one request a connection, this project's profile).
use Rattle.std.specs.Prelude.{◌≡◌, ℕ, ◌<◌, Bool, true, false, ◌&&◌, nat_eq, if◌then◌else◌, List, [], ◌++◌, drop, length, take, Option, None, Some, MatchOption}
use Rattle.httparse.specs.Grammar.{HasNoRequest, MayBecomeRequest}
use Rattle.fax_http.specs.declared.answer.Answer.{Answer}
use Rattle.fax_http.specs.declared.question.Question.{Question}
use Rattle.fax_http.specs.declared.reading.TheConstants.{MOST_HEAD}
use Rattle.fax_http.specs.Answers.{answer_octets}
use Rattle.fax_http.specs.Questions.{Asks}

-- The octets that came, as many as count; what they ask for, none so far; whether that was answered; what is left of the answer.
pub record ConnectionValue : Type 0 where
  pub heard : List ℕ
  pub question : Option Question
  pub is_answered : Bool
  pub left : List ℕ

abbrev pub nothing_heard : ConnectionValue
nothing_heard = record { heard = []; question = None; is_answered = false; left = [] }

-- nothing is asked for yet: no head is whole, one may become so, and there is room for it
pub record Waits (octets : List ℕ) : Type 0 where
  pub none : HasNoRequest octets
  pub may : MayBecomeRequest octets
  pub room : length octets < MOST_HEAD

-- Octets come before anything was asked for: of all octets so many count as a head may have, and what they ask for is what the
-- connection is to be answered.
pub record HearsMore (octets : List ℕ) (asked : Option Question) (old new : ConnectionValue) :
    Type 0 where
  pub all : List ℕ
  pub are : all ≡ take MOST_HEAD (old.heard ++ octets)
  pub asks : MatchOption asked (Waits all) (λ question. Asks all question)
  pub same :
      new ≡ record { heard = all; question = asked; is_answered = old.is_answered; left = old.left }

-- After that, nothing is asked for.
abbrev pub Hears : List ℕ → Option Question → ConnectionValue → ConnectionValue → Type 0
Hears octets asked old new = MatchOption old.question (HearsMore octets asked old new)
    (λ question. (asked ≡ None) × (new ≡ old))

-- what was asked for, where it was not answered
abbrev pub unanswered : ConnectionValue → Option Question
unanswered connection = if connection.is_answered then None else connection.question

-- the octets of an answer are due, with a body or without, as the question says
abbrev pub answers : Answer → Question → ConnectionValue → ConnectionValue
answers answer question old = record {
  heard = old.heard;
  question = old.question;
  is_answered = true;
  left = answer_octets answer question.has_body;
}

-- It is answered once, and not before something was asked for.
abbrev pub answered_if : Bool → Option Question → Answer → ConnectionValue → ConnectionValue
answered_if true question answer old = old
answered_if false None answer old = old
answered_if false (Some question) answer old = answers answer question old

abbrev pub answered_by : Answer → ConnectionValue → ConnectionValue
answered_by answer old = answered_if old.is_answered old.question answer old

-- so many octets were written
abbrev pub written : ℕ → ConnectionValue → ConnectionValue
written count old = record {
  heard = old.heard;
  question = old.question;
  is_answered = old.is_answered;
  left = drop count old.left;
}

abbrev pub is_over : ConnectionValue → Bool
is_over connection = connection.is_answered && nat_eq (length connection.left) 0
