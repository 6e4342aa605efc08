-- Tokens that are written one after the other.
use Rattle.std.proofs.Common.{◌≡◌, ℕ, List, ◌++◌, codes, Option, Result, Ok, Err, ◌∙◌, ap, append_assoc}
use Rattle.std.specs.Result.{OnOk}
use Rattle.json.specs.Token.{Token}
use Rattle.json.specs.Written.{Written}
use Rattle.fax_runcodes.specs.declared.format.Format.{Format}
use Rattle.fax_listing.specs.Jobs.{JobValue, state_name}
use Rattle.fax_listing.specs.Lines.{Adds, format_members, job_members, number_member, tag_member, tag_shown, text_member}

-- tokens after others
pub Adds-then : (old mid new : Written) (s t : List Token) → Adds old mid s → Adds mid new t → Adds old new (s ++ t)
Adds-then old mid new s t a b = record {
  before = b.before ∙ a.before;
  added = b.added ∙ ap (λ u. u ++ t) a.added ∙ append_assoc old.tokens s t;
}

-- the same, where the last write may fail
pub Adds-before : {T E : Type 0} (r : Result T E) (old mid new : Written) (s t : List Token) → Adds old mid s → OnOk r (Adds mid new t) → OnOk r (Adds old new (s ++ t))
Adds-before (Ok done) old mid new s t a b = Adds-then old mid new s t a b
Adds-before (Err fault) old mid new s t a b = tt

-- a value that is another one
Adds-as : {A : Type 0} (tokens : A → List Token) (x y : A) (old new : Written) → x ≡ y → Adds old new (tokens x) → Adds old new (tokens y)
Adds-as tokens x y old new same a = record {
  before = a.before;
  added = a.added ∙ ap (λ z. old.tokens ++ tokens z) same;
}

OnOk-as : {A T E : Type 0} (r : Result T E) (tokens : A → List Token) (x y : A) (old new : Written) → x ≡ y → OnOk r (Adds old new (tokens x)) → OnOk r (Adds old new (tokens y))
OnOk-as (Ok done) tokens x y old new same a = Adds-as tokens x y old new same a
OnOk-as (Err fault) tokens x y old new same a = tt

-- all members of a job were written
pub job_written : {T E : Type 0} (r : Result T E) (job : JobValue) (name state : List ℕ) (life call first pages : ℕ) (tag : Option (List ℕ)) (format : Format)
    (a b c d e f g h i : Written)
    → Adds a b (text_member (codes "state") state) → Adds b c (text_member (codes "line") name)
    → Adds c d (number_member (codes "life") life) → Adds d e (number_member (codes "call") call) → Adds e f (tag_member tag)
    → Adds f g (number_member (codes "first") first) → Adds g h (number_member (codes "pages") pages) → OnOk r (Adds h i (format_members format))
    → state ≡ state_name job.state → life ≡ job.first.life → call ≡ job.first.call → tag ≡ tag_shown job.first.tag → first ≡ job.first.number → pages ≡ job.pages
    → format ≡ job.first.format
    → OnOk r (Adds a i (job_members name job))
job_written r job name state life call first pages tag format a b c d e f g h i s1 s2 s3 s4 s5 s6 s7 s8 e1 e3 e4 e5 e6 e7 e8 =
    let m8 = OnOk-as r format_members format job.first.format h i e8 s8 in
    let m7 = Adds-before r g h i _ _ (Adds-as (number_member (codes "pages")) pages job.pages g h e7 s7) m8 in
    let m6 = Adds-before r f g i _ _ (Adds-as (number_member (codes "first")) first job.first.number f g e6 s6) m7 in
    let m5 = Adds-before r e f i _ _ (Adds-as tag_member tag (tag_shown job.first.tag) e f e5 s5) m6 in
    let m4 = Adds-before r d e i _ _ (Adds-as (number_member (codes "call")) call job.first.call d e e4 s4) m5 in
    let m3 = Adds-before r c d i _ _ (Adds-as (number_member (codes "life")) life job.first.life c d e3 s3) m4 in
    let m2 = Adds-before r b c i _ _ s2 m3 in
    Adds-before r a b i _ _ (Adds-as (text_member (codes "state")) state (state_name job.state) a b e1 s1) m2

-- the same, where the last write may fail, for any spelling of the tokens
pub Adds-last : {T E : Type 0} (r : Result T E) (old mid new : Written) (s t whole : List Token) → Adds old mid s → OnOk r (Adds mid new t) → s ++ t ≡ whole → OnOk r (Adds old new whole)
Adds-last (Ok done) old mid new s t whole a b e = let both = Adds-then old mid new s t a b in record {
  before = both.before;
  added = both.added ∙ ap (λ u. old.tokens ++ u) e;
}
Adds-last (Err fault) old mid new s t whole a b e = tt
