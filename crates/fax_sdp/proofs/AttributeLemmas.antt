-- What an attribute says, by its name.
use Rattle.std.proofs.Common.{◌≡◌, ℕ, Bool, cond, List, codes}
use Rattle.fax_sdp.specs.Attributes.{bound, correction, management, valued, version}
use Rattle.fax_sdp.specs.Texts.{is_word, number}

pub valued_by : (name value : List ℕ) (a b d : Bool)
    → is_word name (codes "T38FaxVersion") ≡ a → is_word name (codes "T38FaxRateManagement") ≡ b → is_word name (codes "T38FaxUdpEC") ≡ d
    → valued name value ≡ cond a (version (number value)) (cond b (management value) (cond d (correction value) (bound name (number value))))
valued_by name value a b d p q r =
    λ i. cond (p i) (version (number value)) (cond (q i) (management value) (cond (r i) (correction value) (bound name (number value))))
