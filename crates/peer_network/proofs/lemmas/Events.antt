-- What the tests on nodes and ports tell.
use Rattle.std.proofs.Common.{◌≡◌, ℕ, ◌≤◌, Bool, true, false, ◌&&◌, refl, cond, Option, Some, None, ltb-true, leb-true, lt-ltb, le-leb}
use Rattle.std.proofs.lemmas.Bool.{and_parts}
use Rattle.peer_network.specs.Network.{Network, At, is_node, is_port}

-- a test that led to something
pub if_some : {P : Type 0} {A : Type 0} (b : Bool) (x : Option A) (y : A) → cond b x None ≡ Some y → (b ≡ true → x ≡ Some y → P) → P
if_some true x y e f = f refl e
if_some false x y e f = cc

pub and_true : (a b : Bool) → a ≡ true → b ≡ true → (a && b) ≡ true
and_true a b x y = rw (x, y)

pub node_of : (g : Network) (v : ℕ) → is_node g v ≡ true → (1 ≤ v) × (v ≤ g.count)
node_of g v e = let b = and_parts _ _ e in (ltb-true 0 v b.0, leb-true v g.count b.1)

pub is_node_of : (g : Network) (v : ℕ) → 1 ≤ v → v ≤ g.count → is_node g v ≡ true
is_node_of g v lo hi = and_true _ _ (lt-ltb 0 v lo) (le-leb v g.count hi)

pub at_of : (g : Network) (v p : ℕ) → is_port g v p ≡ true → At g v p
at_of g v p e =
    let b = and_parts _ _ e in
    let n = node_of g v b.0 in
    record { some = n.0; node = n.1; port = ltb-true p _ b.1 }

pub is_port_of : (g : Network) (v p : ℕ) → At g v p → is_port g v p ≡ true
is_port_of g v p at = and_true _ _ (is_node_of g v at.some at.node) (lt-ltb p _ at.port)
