-- Parts that are written one after another, after what was there, the last where memory is there for it.
use Rattle.std.proofs.Common.{◌≡◌, ℕ, List, ◌++◌, Result, Ok, Err, OnOk, ◌∙◌, ap, append_assoc}

pub two : {A E : Type 0} (r : Result A E) (old s t a b : List ℕ) → a ≡ old ++ s → OnOk r (b ≡ a ++ t) → OnOk r (b ≡ old ++ (s ++ t))
two (Ok x) old s t a b e f = f ∙ ap (λ (l : List ℕ). l ++ t) e ∙ append_assoc old s t
two (Err x) old s t a b e f = tt

pub three : {A E : Type 0} (r : Result A E) (old s t u a b c : List ℕ) → a ≡ old ++ s → b ≡ a ++ t → OnOk r (c ≡ b ++ u) → OnOk r (c ≡ old ++ (s ++ (t ++ u)))
three r old s t u a b c e f g = two r old s (t ++ u) a c e (two r a t u b c f g)

pub four : {A E : Type 0} (r : Result A E) (old s t u v a b c d : List ℕ) → a ≡ old ++ s → b ≡ a ++ t → c ≡ b ++ u → OnOk r (d ≡ c ++ v) → OnOk r (d ≡ old ++ (s ++ (t ++ (u ++ v))))
four r old s t u v a b c d e f g h = two r old s (t ++ (u ++ v)) a d e (three r a t u v b c d f g h)

pub five : {A E : Type 0} (r : Result A E) (old s t u v w a b c d x : List ℕ) → a ≡ old ++ s → b ≡ a ++ t → c ≡ b ++ u → d ≡ c ++ v → OnOk r (x ≡ d ++ w)
    → OnOk r (x ≡ old ++ (s ++ (t ++ (u ++ (v ++ w)))))
five r old s t u v w a b c d x e f g h i = two r old s (t ++ (u ++ (v ++ w))) a x e (four r a t u v w b c d x f g h i)

pub six : {A E : Type 0} (r : Result A E) (old s t u v w y a b c d x z : List ℕ) → a ≡ old ++ s → b ≡ a ++ t → c ≡ b ++ u → d ≡ c ++ v → x ≡ d ++ w → OnOk r (z ≡ x ++ y)
    → OnOk r (z ≡ old ++ (s ++ (t ++ (u ++ (v ++ (w ++ y))))))
six r old s t u v w y a b c d x z e f g h i j = two r old s (t ++ (u ++ (v ++ (w ++ y)))) a z e (five r a t u v w y b c d x z f g h i j)

pub seven : {A E : Type 0} (r : Result A E) (old s t u v w y k a b c d x z l : List ℕ) → a ≡ old ++ s → b ≡ a ++ t → c ≡ b ++ u → d ≡ c ++ v → x ≡ d ++ w → z ≡ x ++ y → OnOk r (l ≡ z ++ k)
    → OnOk r (l ≡ old ++ (s ++ (t ++ (u ++ (v ++ (w ++ (y ++ k)))))))
seven r old s t u v w y k a b c d x z l e f g h i j m = two r old s (t ++ (u ++ (v ++ (w ++ (y ++ k))))) a l e (six r a t u v w y k b c d x z l f g h i j m)
