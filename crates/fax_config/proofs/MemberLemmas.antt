-- What is found at a key, by its kind.
use Rattle.std.proofs.Common.{◌≡◌, ℕ, ℤ, List, Option, None, Some, option_map, sym, ◌∙◌, ap}
use Rattle.toml.specs.Data.{Data, string, integer, float, boolean, datetime, array, table, Items, Members, as_str, as_integer, as_array, as_table}

-- what a look-up saw of nothing, and of something
pub seen_none : {X Y : Type 0} (f : X → Y) (r : Option X) (m : Option Y) → r ≡ None → option_map f r ≡ m → m ≡ None
seen_none f None m is e = sym e
seen_none f (Some x) m is e = absurd (cc)

pub seen_some : {X Y : Type 0} (f : X → Y) (r : Option X) (m : Option Y) (x : X) → r ≡ Some x → option_map f r ≡ m → m ≡ Some (f x)
seen_some f None m x is e = absurd (cc)
seen_some f (Some y) m x is e = let same : y ≡ x = cc in sym e ∙ ap (λ z. Some (f z)) same

-- data of which an accessor gave something
pub is_string : (d : Data) (s : List ℕ) → as_str d ≡ Some s → d ≡ string s
is_string (string t) s e = cc
is_string (integer n) s e = absurd (cc)
is_string (float x) s e = absurd (cc)
is_string (boolean b) s e = absurd (cc)
is_string (datetime dt) s e = absurd (cc)
is_string (array items) s e = absurd (cc)
is_string (table inner) s e = absurd (cc)

pub is_integer : (d : Data) (n : ℤ) → as_integer d ≡ Some n → d ≡ integer n
is_integer (string t) n e = absurd (cc)
is_integer (integer m) n e = cc
is_integer (float x) n e = absurd (cc)
is_integer (boolean b) n e = absurd (cc)
is_integer (datetime dt) n e = absurd (cc)
is_integer (array items) n e = absurd (cc)
is_integer (table inner) n e = absurd (cc)

pub is_array : (d : Data) (items : Items) → as_array d ≡ Some items → d ≡ array items
is_array (string t) items e = absurd (cc)
is_array (integer m) items e = absurd (cc)
is_array (float x) items e = absurd (cc)
is_array (boolean b) items e = absurd (cc)
is_array (datetime dt) items e = absurd (cc)
is_array (array others) items e = cc
is_array (table inner) items e = absurd (cc)

pub is_table : (d : Data) (members : Members) → as_table d ≡ Some members → d ≡ table members
is_table (string t) inner e = absurd (cc)
is_table (integer m) inner e = absurd (cc)
is_table (float x) inner e = absurd (cc)
is_table (boolean b) inner e = absurd (cc)
is_table (datetime dt) inner e = absurd (cc)
is_table (array items) inner e = absurd (cc)
is_table (table others) inner e = cc
