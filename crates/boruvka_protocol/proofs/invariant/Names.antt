-- Clauses of Names. e is an end of a link, f the other one; heard is what was heard at e, and told are the Names that wait there.
use Rattle.std.specs.Prelude.{◌≡◌, ◌⊎◌, ℕ, suc, ◌+◌, ◌<◌, ◌≤◌, true, List, [], ◌∷◌, length}
use Rattle.ghs_graph.specs.declared.key.Key.{Key}
use Rattle.ghs_graph.specs.Links.{InTree}
use Rattle.boruvka_protocol.specs.Levels.{InClass}
use Rattle.boruvka_protocol.specs.Cores.{IsCore}
use Rattle.boruvka_node.specs.declared.message.Phase.TheVariants.{Rest}
use Rattle.boruvka_node.specs.Words.{is_basic}
use Rattle.boruvka_protocol.proofs.invariant.Words.{IsName}
use Rattle.boruvka_protocol.proofs.invariant.Sides.{Side, Heard, Told}

module _ (ks : List Key) where
  -- Names from u stand level by level, from the one behind l on, each with the name of u's class
  abbrev pub AreNamesFrom : ℕ → ℕ → List Told → Type 0
  AreNamesFrom u l [] = Unit
  AreNamesFrom u l (t ∷ ts) = (t.level ≡ suc l) × IsCore ks l u t.name × AreNamesFrom u (suc l) ts

  -- over a link aside of the forest levels are told up to the first one where one class holds both ends
  pub record IsToldAside (e f : Side) (told : ℕ) : Type 0 where
    pub apart : (m : ℕ) → m < told → InClass ks m e.node f.node → ⊥
    pub far : (told ≡ f.level) ⊎ InClass ks told e.node f.node

  -- told is the level heard and as many as Names wait
  pub record ToldFits (e f : Side) (told : ℕ) : Type 0 where
    pub at_most : told ≤ f.level
    pub basic : is_basic f.mark ≡ true → told ≡ f.level
    pub aside : (InTree ks e.key → ⊥) → IsToldAside e f told

  pub record NamesFit (e f : Side) (heard : Heard) (told : List Told) : Type 0 where
    pub said : IsName ks heard.level f.node heard.name
    pub next : AreNamesFrom f.node heard.level told
    pub all : ToldFits e f (heard.level + length told)
    -- over a Basic port levels differ by one at most
    pub near : is_basic e.mark ≡ true → (f.level ≤ suc e.level) × (e.level ≤ suc f.level)
    -- who is at rest has heard its level at each Basic port
    pub rest : e.phase ≡ Rest → 1 ≤ e.level → is_basic e.mark ≡ true → e.level ≤ heard.level
