use Rattle.std.proofs.Common.{◌≡◌, ◌+◌, ◌<◌, ◌++◌, ℕ, Bool, false, is_some, List, length, drop, take, IfNone, IfSome, subst, ap, ◌∙◌, arith}
use Rattle.httparse.specs.Grammar.{HasNoRequest, MayBecomeRequest}
use Rattle.fax_http.specs.declared.reading.TheConstants.{MOST_HEAD}
use Rattle.fax_http.specs.Connections.{ConnectionValue, Hears}
use Rattle.fax_http.specs.Questions.{Asks}
use Rattle.fax_http.proofs.ConnectionLemmas.{heard_more}
use Rattle.fax_http.proofs.connection.Connection.hear.Goals as goal

pub returns-clause-ok : goal.returns-clause-ok
returns-clause-ok c =
    let heard : List ℕ = c.self.inside.heard.items in
    let all : List ℕ = c.extend_from_slice.new.self.items in
    let left : List ℕ = drop c.self.inside.written c.self.inside.answer.items in
    let asked = c.read_question-self-inside.result in
    let room : length heard + c.saturating_sub-room.result ≡ 8192 = omega (arith, c.saturating_sub-room.ensures, c.len.ensures, c.self.invariant.1) in
    let more : all ≡ heard ++ take c.saturating_sub-room.result c.args.octets.now = c.in_ok-extend_from_slice.ensures.items ∙ ap (λ (l : List ℕ). heard ++ l) c.front.ensures in
    let none : is_some c.self.inside.question ≡ false = cc in
    let new : ConnectionValue = record { heard = all; question = asked; is_answered = c.self.inside.is_answered; left = left } in
    subst (λ (old : ConnectionValue). Hears c.args.octets.now asked old new) c.self.view_is
    (heard_more heard c.args.octets.now all c.saturating_sub-room.result c.self.inside.question asked c.self.inside.is_answered left room more none
    (subst (λ (l : List ℕ). IfSome asked (λ question. Asks l question)) c.as_slice.ensures.value c.read_question-self-inside.ensures.asks)
    (subst (λ (l : List ℕ). IfNone asked (HasNoRequest l)) c.as_slice.ensures.value c.read_question-self-inside.ensures.none)
    (subst (λ (l : List ℕ). IfNone asked (MayBecomeRequest l)) c.as_slice.ensures.value c.read_question-self-inside.ensures.waits)
    (subst (λ (l : List ℕ). IfNone asked (length l < MOST_HEAD)) c.as_slice.ensures.value c.read_question-self-inside.ensures.room))
