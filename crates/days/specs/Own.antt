-- What stands at a desk, worked out from its own edits alone. Assumes nothing: these are definitions.
use Rattle.std.specs.Prelude.{ℕ, cond, List, [], ◌∷◌, map, Some, None, Option, ◌==◌, slice_set}
use Rattle.script.specs.Allowed.{counted_as, script_fault}
use Rattle.script.specs.declared.refusal.Refusal.{Refusal}
use Rattle.theory.specs.Items.{Item, made, written}
use Rattle.house.specs.Deeds.{Deed, bring, build, forget, give, write}

-- an edit of item k at desk y, seen from desk x: it counts at its own desk, unless what it brings is not allowed;
-- an item that is not there is not set
abbrev pub own_edit : ℕ → ℕ → ℕ → Option Refusal → Item → List Item → List Item
own_edit x y k None i d = cond (x == y) (slice_set d k i) d
own_edit x y k (Some f) i d = d

-- what one command makes of the items of desk x
abbrev pub own_after : ℕ → Deed → List Item → List Item
own_after x (write y k v) d = own_edit x y k None (written v) d
own_after x (give y k ls) d = own_edit x y k (script_fault ls) (made (map counted_as ls)) d
own_after x (build y k) d = d
own_after x (forget i) d = d
own_after x (bring ls qs v) d = d

unfoldable pub own : ℕ → List Deed → List Item → List Item
own x [] d = d
own x (e ∷ es) d = own x es (own_after x e d)
