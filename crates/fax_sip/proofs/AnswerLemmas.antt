-- The parts of an answer and of a request, one after another.
use Rattle.std.proofs.Common.{◌≡◌, ℕ, List, ◌++◌, Result, Ok, Err, OnOk, ◌∙◌, ap, append_assoc}

pub answer_parts : (first kept routes fields last body a b c d e f : List ℕ) → a ≡ first → b ≡ a ++ kept → c ≡ b ++ routes → d ≡ c ++ fields → e ≡ d ++ last → f ≡ e ++ body
    → f ≡ first ++ (kept ++ (routes ++ (fields ++ (last ++ body))))
answer_parts first kept routes fields last body a b c d e f a_is b_is c_is d_is e_is f_is =
    let b_all : b ≡ first ++ kept = b_is ∙ ap (λ (x : List ℕ). x ++ kept) a_is in
    let c_all : c ≡ (first ++ kept) ++ routes = c_is ∙ ap (λ (x : List ℕ). x ++ routes) b_all in
    let d_all : d ≡ ((first ++ kept) ++ routes) ++ fields = d_is ∙ ap (λ (x : List ℕ). x ++ fields) c_all in
    let e_all : e ≡ (((first ++ kept) ++ routes) ++ fields) ++ last = e_is ∙ ap (λ (x : List ℕ). x ++ last) d_all in
    f_is ∙ ap (λ (x : List ℕ). x ++ body) e_all ∙ simp append_assoc

-- three parts after what was there, the last where memory is there for it
pub three_parts : {A E : Type 0} (r : Result A E) (old first second third a b c : List ℕ) → a ≡ old ++ first → b ≡ a ++ second → OnOk r (c ≡ b ++ third) → OnOk r (c ≡ old ++ (first ++ (second ++ third)))
three_parts (Ok x) old first second third a b c a_is b_is c_is =
    c_is ∙ ap (λ (x : List ℕ). x ++ third) (b_is ∙ ap (λ (x : List ℕ). x ++ second) a_is) ∙ simp append_assoc
three_parts (Err e) old first second third a b c a_is b_is c_is = tt
