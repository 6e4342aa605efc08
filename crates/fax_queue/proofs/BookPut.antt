-- None that was put is lost, whatever else was not.
use Rattle.std.proofs.Common.{◌≡◌, ◌∙◌, ℕ, zero, suc, ◌+◌, ◌≤◌, inl, Bool, true, false, cond, List, [], ◌∷◌, ◌++◌, length, map, take, drop, refl, sym, ap, subst, arith, append_assoc}
use Rattle.std.proofs.lemmas.List.{append-nil, take-append-drop, take-append-le}
use Rattle.fax_jobs.specs.Jobs.{JobValue}
use Rattle.fax_call.specs.Writings.{Writing}
use Rattle.fax_gateway.specs.Restored.{CallPage, RestoredCall, pages_restored}
use Rattle.fax_gateway.specs.Cuts.{JobsAreCut}
use Rattle.fax_gateway.specs.Lives.{AreSomeOf, Life, all_confirmed, all_ended, pages_confirmed, pages_left_in, pages_of_jobs}
use Rattle.fax_gateway.specs.Reports.{JobsHaveStates}
use Rattle.fax_gateway.specs.BothLegs.{book_of, both_legs, past_of}
use Rattle.fax_queue.specs.Lives.{Entry, PageAction, are_there, owed, queue_of}
use Rattle.fax_queue.specs.Lives.{Turns, Begins, Stores, Refuses, Ends, Leaves, Lets, Beside, Stops}
use Rattle.fax_queue.specs.Book.{AreOfLives, BookEntry, ServersLoseNoneThatWasPut, noted, page_of, pages_gone, pages_put, told_by, told_over, unnoted}
use Rattle.fax_queue.proofs.BookEntries.{AreSound, LifeIs, QueueIs, counts_by, pages_by, pages_in_life, pages_of, pages-append, queue_is, restored_pages, total, total_more, total_sizes}
use Rattle.fax_queue.proofs.BookLaws.{IsAfter, NoneYet, actions_life, all_of, before_life, both_some, gone_before, none_of, none_yet, some_some, some_take, some_there, sound_actions, weaker}

-- ---- each page that was put is gone or owed

there_append_if : (e : Entry) (front others all : List Entry) (b : Bool) → all ≡ front ++ others → cond b (e ∷ all) all ≡ cond b (e ∷ front) front ++ others
there_append_if e front others all true same = ap (λ (x : List Entry). e ∷ x) same
there_append_if e front others all false same = same

there_append : (entries others : List Entry) → are_there (entries ++ others) ≡ are_there entries ++ are_there others
there_append [] others = refl
there_append (e ∷ entries) others = there_append_if e (are_there entries) (are_there others) (are_there (entries ++ others)) e.is_there (there_append entries others)

again_if : (e : Entry) (entries : List Entry) (b : Bool) → e.is_there ≡ b → are_there entries ≡ entries → are_there (cond b (e ∷ entries) entries) ≡ cond b (e ∷ entries) entries
again_if e entries true is rest = ap (λ (c : Bool). cond c (e ∷ are_there entries) (are_there entries)) is ∙ ap (λ (x : List Entry). e ∷ x) rest
again_if e entries false is rest = rest

there_again : (entries : List Entry) → are_there (are_there entries) ≡ are_there entries
there_again [] = refl
there_again (e ∷ entries) = again_if e (are_there entries) e.is_there refl (there_again entries)

-- what is owed, one entry more
owed_more : (actions news : List PageAction) (entry : Entry) → queue_of news ≡ queue_of actions ++ entry ∷ [] → map page_of (owed news) ≡ map page_of (owed actions) ++ pages_of (are_there (entry ∷ []))
owed_more actions news entry is =
    ap (λ (entries : List Entry). pages_of (are_there entries)) is ∙ ap (λ (entries : List Entry). pages_of entries) (there_append (queue_of actions) (entry ∷ []))
    ∙ pages-append (are_there (queue_of actions)) (are_there (entry ∷ []))

-- the first of a queue go, and of the others those that are there are owed
first_gone_if : (e : Entry) (entries others : List Entry) (b : Bool) → AreSomeOf (pages_of entries) (pages_of others) → AreSomeOf (pages_of (cond b (e ∷ entries) entries)) (page_of e.page ∷ pages_of others)
first_gone_if e entries others true are = inl (refl, are)
first_gone_if e entries others false are = weaker (page_of e.page) (pages_of entries) (pages_of others) are

first_gone : (n : ℕ) (entries : List Entry) → AreSomeOf (pages_of (are_there entries)) (pages_of (take n entries ++ are_there (drop n entries)))
first_gone zero entries = all_of (pages_of (are_there entries))
first_gone (suc n) [] = refl
first_gone (suc n) (e ∷ entries) = first_gone_if e (are_there entries) (take n entries ++ are_there (drop n entries)) e.is_there (first_gone n entries)

gone_more : (actions : List PageAction) (n : ℕ) → AreSomeOf (pages_put actions) (pages_gone actions ++ map page_of (owed actions))
    → AreSomeOf (pages_put actions) ((pages_gone actions ++ pages_of (take n (queue_of actions))) ++ pages_of (are_there (drop n (queue_of actions))))
gone_more actions n are =
    let gone : List CallPage = pages_gone actions in
    let first : List CallPage = pages_of (take n (queue_of actions)) in
    let rest : List CallPage = pages_of (are_there (drop n (queue_of actions))) in
    some_some (pages_put actions) (gone ++ map page_of (owed actions)) ((gone ++ first) ++ rest) are
    (subst (λ (x : List CallPage). AreSomeOf (gone ++ map page_of (owed actions)) x) (sym (append_assoc gone first rest))
    (both_some gone gone (map page_of (owed actions)) (first ++ rest) (all_of gone)
    (subst (λ (x : List CallPage). AreSomeOf (map page_of (owed actions)) x) (pages-append (take n (queue_of actions)) (are_there (drop n (queue_of actions)))) (first_gone n (queue_of actions)))))

put_more : (actions news : List PageAction) (entry : Entry) (more : List CallPage) → queue_of news ≡ queue_of actions ++ entry ∷ [] → AreSomeOf more (pages_of (are_there (entry ∷ [])))
    → AreSomeOf (pages_put actions) (pages_gone actions ++ map page_of (owed actions)) → AreSomeOf (pages_put actions ++ more) (pages_gone actions ++ map page_of (owed news))
put_more actions news entry more is some are =
    let gone : List CallPage = pages_gone actions in
    let last : List CallPage = pages_of (are_there (entry ∷ [])) in
    subst (λ (x : List CallPage). AreSomeOf (pages_put actions ++ more) x)
    (append_assoc gone (map page_of (owed actions)) last ∙ ap (λ (x : List CallPage). gone ++ x) (sym (owed_more actions news entry is)))
    (both_some (pages_put actions) (gone ++ map page_of (owed actions)) more last are some)

put_are : (actions : List PageAction) → AreSomeOf (pages_put actions) (pages_gone actions ++ map page_of (owed actions))
put_are [] = refl
put_are (Turns given ∷ actions) = put_are actions
put_are (Begins ∷ actions) = put_are actions
put_are (Stores given page ∷ actions) = put_more actions (Stores given page ∷ actions) (record { page = page; is_there = true }) (page_of page ∷ []) refl (inl (refl, refl)) (put_are actions)
put_are (Refuses given page is_there ∷ actions) =
    let entry : Entry = record { page = page; is_there = is_there } in
    let news : List PageAction = Refuses given page is_there ∷ actions in
    subst (λ (x : List CallPage). AreSomeOf x (pages_gone actions ++ map page_of (owed news))) (append-nil (pages_put actions))
    (put_more actions news entry [] refl (none_of (pages_of (are_there (entry ∷ [])))) (put_are actions))
put_are (Ends pages ∷ actions) = gone_more actions pages (put_are actions)
put_are (Leaves pages ∷ actions) = put_are actions
put_are (Lets pages ∷ actions) = gone_more actions pages (put_are actions)
put_are (Beside ∷ actions) = put_are actions
put_are (Stops ∷ actions) =
    subst (λ (entries : List Entry). AreSomeOf (pages_put actions) (pages_gone actions ++ pages_of entries)) (sym (there_again (queue_of actions))) (put_are actions)

-- ---- what is gone of a life are the first pages that it had

take_none : (n : ℕ) (none : List CallPage) → none ≡ [] → take n none ≡ []
take_none zero none is = refl
take_none (suc n) none is = ap (λ (x : List CallPage). take (suc n) x) is

take_more : (m n : ℕ) (all : List CallPage) → take m all ++ take n (drop m all) ≡ take (m + n) all
take_more zero n all = ap (λ (k : ℕ). take k all) (let e : n ≡ 0 + n = omega arith in e)
take_more (suc m) n [] = take_none n [] refl ∙ sym (take_none (suc m + n) [] refl)
take_more (suc m) n (p ∷ all) =
    ap (λ (x : List CallPage). p ∷ x) (take_more m n all) ∙ ap (λ (k : ℕ). take k (p ∷ all)) (let e : suc (m + n) ≡ suc m + n = omega arith in e)

pages-take : (n : ℕ) (entries : List Entry) → pages_of (take n entries) ≡ take n (pages_of entries)
pages-take zero entries = refl
pages-take (suc n) [] = refl
pages-take (suc n) (e ∷ entries) = ap (λ (x : List CallPage). page_of e.page ∷ x) (pages-take n entries)

abbrev IsGone : List PageAction → Type 0
IsGone actions = pages_gone actions ≡ gone_before actions ++ take (total (noted actions)) (pages_by (told_by actions))

gone_same : (actions : List PageAction) (p : CallPage) → QueueIs actions → IsGone actions → pages_gone actions ≡ gone_before actions ++ take (total (noted actions)) (pages_by (told_by actions) ++ p ∷ [])
gone_same actions p is was =
    was ∙ ap (λ (x : List CallPage). gone_before actions ++ x) (sym (take-append-le (total (noted actions)) (pages_by (told_by actions)) (p ∷ []) is.few))

gone_next : (actions : List PageAction) (n : ℕ) → QueueIs actions → IsGone actions → pages_gone actions ++ pages_of (take n (queue_of actions)) ≡ gone_before actions ++ take (total (noted actions ++ n ∷ [])) (pages_by (told_by actions))
gone_next actions n is was =
    let m : ℕ = total (noted actions) in
    let had : List CallPage = pages_by (told_by actions) in
    let next : pages_of (take n (queue_of actions)) ≡ take n (drop m had) = pages-take n (queue_of actions) ∙ ap (λ (x : List CallPage). take n x) is.queued in
    ap (λ (x : List CallPage). x ++ pages_of (take n (queue_of actions))) was ∙ append_assoc (gone_before actions) (take m had) (pages_of (take n (queue_of actions)))
    ∙ ap (λ (x : List CallPage). gone_before actions ++ (take m had ++ x)) next ∙ ap (λ (x : List CallPage). gone_before actions ++ x) (take_more m n had)
    ∙ ap (λ (k : ℕ). gone_before actions ++ take k had) (sym (total_more (noted actions) n))

gone_is : (actions : List PageAction) → AreSound (told_by actions) → IsGone actions
gone_is [] are = refl
gone_is (Turns given ∷ actions) are = gone_is actions are
gone_is (Begins ∷ actions) are = gone_is actions are
gone_is (Stores given page ∷ actions) are = gone_same actions (page_of page) (queue_is actions are) (gone_is actions are)
gone_is (Refuses given page is_there ∷ actions) are = gone_same actions (page_of page) (queue_is actions are) (gone_is actions are)
gone_is (Ends pages ∷ actions) are = gone_next actions pages (queue_is actions are.1) (gone_is actions are.1)
gone_is (Leaves pages ∷ actions) are = gone_is actions are.1
gone_is (Lets pages ∷ actions) are = gone_next actions pages (queue_is actions are.1) (gone_is actions are.1)
gone_is (Beside ∷ actions) are = gone_is actions are
gone_is (Stops ∷ actions) are = sym (append-nil (pages_gone actions))

-- ---- what is gone ended

few_of : (a b c d : ℕ) → a + b ≡ c → d ≡ c → a ≤ d
few_of a b c d e same = omega (arith, e, same)

gone_ended : JobsAreCut → JobsHaveStates → (writes : Writing) (actions : List PageAction) (lives : List Life) → AreOfLives writes actions lives → AreSomeOf (pages_gone actions) (all_ended writes lives)
gone_ended cut states writes actions [] are = (none_yet actions are.same).gone
gone_ended cut states writes actions (life ∷ earlier) are =
    let sound : AreSound (told_by actions) = sound_actions cut states writes actions (life ∷ earlier) are in
    let is : LifeIs life.setup writes life.trace (told_by actions) = actions_life cut states writes actions life earlier are in
    let was : QueueIs actions = queue_is actions sound in
    let after : IsAfter life.setup.restored (told_over earlier) actions = before_life life earlier actions are.same in
    let jobs : List JobValue = (past_of (both_legs life.setup writes life.trace)).ended in
    let n : ℕ = total (noted actions) in
    let few : n ≤ length (pages_of_jobs jobs) =
    few_of n (total (unnoted actions)) (total (counts_by (told_by actions))) (length (pages_of_jobs jobs)) was.all (total_sizes jobs ∙ ap (λ (ns : List ℕ). total ns) is.counts) in
    let gone : pages_gone actions ≡ pages_gone after.olds ++ take n (pages_of_jobs jobs) =
    gone_is actions sound ∙ ap (λ (x : List CallPage). x ++ take n (pages_by (told_by actions))) after.gone
    ∙ ap (λ (x : List CallPage). pages_gone after.olds ++ take n x) is.pages
    ∙ ap (λ (x : List CallPage). pages_gone after.olds ++ x) (take-append-le n (pages_of_jobs jobs) (pages_left_in (book_of (both_legs life.setup writes life.trace))) few) in
    subst (λ (x : List CallPage). AreSomeOf x (all_ended writes earlier ++ pages_of_jobs jobs)) (sym gone)
    (both_some (pages_gone after.olds) (all_ended writes earlier) (take n (pages_of_jobs jobs)) (pages_of_jobs jobs)
    (gone_ended cut states writes after.olds earlier (record { traces = are.traces.1; same = after.told })) (some_take n (pages_of_jobs jobs)))

-- ---- what is gone or owed was confirmed

gone_confirmed : JobsAreCut → JobsHaveStates → (writes : Writing) (actions : List PageAction) (lives : List Life) → AreOfLives writes actions lives
    → AreSomeOf (pages_gone actions ++ map page_of (owed actions)) (all_confirmed lives)
gone_confirmed cut states writes actions [] are =
    let none : NoneYet actions = none_yet actions are.same in
    ap (λ (x : List CallPage). x ++ map page_of (owed actions)) none.gone ∙ ap (λ (entries : List Entry). pages_of (are_there entries)) none.queued
gone_confirmed cut states writes actions (life ∷ earlier) are =
    let sound : AreSound (told_by actions) = sound_actions cut states writes actions (life ∷ earlier) are in
    let was : QueueIs actions = queue_is actions sound in
    let after : IsAfter life.setup.restored (told_over earlier) actions = before_life life earlier actions are.same in
    let own : List CallPage = pages_confirmed life.setup life.trace in
    let old : List CallPage = pages_gone after.olds in
    let kept : List CallPage = map page_of (owed after.olds) in
    let had : List CallPage = pages_by (told_by actions) in
    let n : ℕ = total (noted actions) in
    let had_is : had ≡ kept ++ own =
    ap (λ (told : List BookEntry). pages_by told) are.same ∙ pages_in_life life.setup life.trace (told_over earlier)
    ∙ ap (λ (calls : List RestoredCall). pages_restored calls ++ own) after.restored ∙ ap (λ (x : List CallPage). x ++ own) (restored_pages (owed after.olds)) in
    let all : pages_gone actions ++ pages_of (queue_of actions) ≡ (old ++ kept) ++ own =
    ap (λ (x : List CallPage). x ++ pages_of (queue_of actions)) (gone_is actions sound ∙ ap (λ (x : List CallPage). x ++ take n had) after.gone)
    ∙ append_assoc old (take n had) (pages_of (queue_of actions))
    ∙ ap (λ (x : List CallPage). old ++ (take n had ++ x)) was.queued ∙ ap (λ (x : List CallPage). old ++ x) (take-append-drop n had)
    ∙ ap (λ (x : List CallPage). old ++ x) had_is ∙ sym (append_assoc old kept own) in
    some_some (pages_gone actions ++ map page_of (owed actions)) (pages_gone actions ++ pages_of (queue_of actions)) (all_confirmed earlier ++ own)
    (both_some (pages_gone actions) (pages_gone actions) (map page_of (owed actions)) (pages_of (queue_of actions)) (all_of (pages_gone actions)) (some_there (queue_of actions)))
    (subst (λ (x : List CallPage). AreSomeOf x (all_confirmed earlier ++ own)) (sym all)
    (both_some (old ++ kept) (all_confirmed earlier) own own
    (gone_confirmed cut states writes after.olds earlier (record { traces = are.traces.1; same = after.told })) (all_of own)))

pub servers_lose_none_that_was_put : JobsAreCut → JobsHaveStates → ServersLoseNoneThatWasPut
servers_lose_none_that_was_put cut states writes actions lives are = record {
  none_is_lost = put_are actions;
  ended = gone_ended cut states writes actions lives are;
  none_is_added = gone_confirmed cut states writes actions lives are;
}
