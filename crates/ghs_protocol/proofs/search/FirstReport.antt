-- Which Report a node hears first on a port that isn't its in_branch.
use Rattle.std.proofs.Common.{◌≡◌, ◌≢◌, ℕ, ◌≤◌, Option, Some, None, List, [], ◌∷◌, ◌++◌, refl, sym, ◌∙◌, ap, subst, ⊎_elim, ◌⊎◌, inl, inr, arith}
use Rattle.std.proofs.lemmas.Bool.{cases_eq}
use Rattle.ghs_graph.specs.declared.key.Key.{Key}
use Rattle.ghs_node.specs.declared.mark.Mark.{Mark}
use Rattle.ghs_node.specs.declared.mark.Mark.TheVariants.{Basic, Branch, Rejected}
use Rattle.ghs_node.specs.declared.message.Message.{Message}
use Rattle.ghs_node.specs.declared.message.Message.TheVariants.{Connect, Initiate, Test, Accept, Reject, Report, ChangeRoot}
use Rattle.ghs_protocol.proofs.clauses.Scene.{TreeEnd}
use Rattle.ghs_protocol.proofs.clauses.TreeMessages.{TreeFits, Reported, Upward, Nothing_up, Report_up, Chain, Downward, Initiates, Old_report, CoreFits, CoreQueue, Plain, With_report, Core, Moved, MovedFits, To_here, To_there, Stage, Asking, Called, Begun, AtStage, Served, asked, called}
use Rattle.ghs_protocol.proofs.clauses.Links.{Joins, Child, Ups}
use Rattle.ghs_protocol.proofs.tests.Links.{probe_is}

pub mark_is : (m : Mark) → (m ≡ Branch) ⊎ (m ≢ Branch)
mark_is Branch = inl refl
mark_is Basic = inr (λ e. cc)
mark_is Rejected = inr (λ e. cc)

pub same_keys : (k l : Key) → (k ≡ l) ⊎ (k ≢ l)
same_keys k l =
    ⊎_elim (λ a. ⊎_elim (λ b.
    ⊎_elim (λ c. inl (λ i. record { weight = a i; a = b i; b = c i })) (λ ne. inr (λ e. ne (ap (λ (x : Key). x.b) e))) (cases_eq k.b l.b))
    (λ ne. inr (λ e. ne (ap (λ (x : Key). x.a) e)))
    (cases_eq k.a l.a))
    (λ ne. inr (λ e. ne (ap (λ (x : Key). x.weight) e)))
    (cases_eq k.weight l.weight)

pub key_is : (o : Option Key) (k : Key) → (o ≡ Some k) ⊎ (o ≢ Some k)
key_is None k = inr (λ e. cc)
key_is (Some l) k = ⊎_elim (λ e. inl (ap Some e)) (λ ne. inr (λ (e : Some l ≡ Some k). ne cc)) (same_keys l k)

-- what a joined link can be
pub data Joint (e f : TreeEnd) : Type 0 where
  Down_here : Child e f → Joint e f
  Down_there : Child f e → Joint e f
  On_core : Core e f → Joint e f
  On_moved : Moved e f → Joint e f

pub joint : (e f : TreeEnd) → Joins e f → Ups e ⊎ Ups f → Joint e f
joint e f j ups =
    ⊎_elim
    (λ a. ⊎_elim (λ b. ⊎_elim
    (λ n. On_core (record { both = record { joins = j; up = a; up_beyond = b }; named = n }))
    (λ n. On_moved (record { both = record { joins = j; up = a; up_beyond = b }; unnamed = n }))
    (key_is e.coming_name e.key))
    (λ b. Down_here (record { joins = j; up = a; down = b }))
    (probe_is f.up f.port))
    (λ a. Down_there (record { joins = record { here = j.there; there = j.here }; up = ⊎_elim (λ x. absurd (a x)) (λ x. x) ups; down = a }))
    (probe_is e.up e.port)

-- a chain that has nowhere to rise is empty
pub chain_rises : (N : Key → Type 0) (coming : ℕ) (coming_name : Option Key) (t l : ℕ) (ms : List Message) → Chain N coming coming_name t l ms → l ≤ t
chain_rises N coming coming_name t l [] c = c
chain_rises N coming coming_name t l (Initiate k f s ∷ ms) c = let z = chain_rises N coming coming_name t k ms c.5 in omega (arith, z, c.0)
chain_rises N coming coming_name t l (Connect k ∷ ms) c = absurd c
chain_rises N coming coming_name t l (Test k f ∷ ms) c = absurd c
chain_rises N coming coming_name t l (Accept ∷ ms) c = absurd c
chain_rises N coming coming_name t l (Reject ∷ ms) c = absurd c
chain_rises N coming coming_name t l (Report k ∷ ms) c = absurd c
chain_rises N coming coming_name t l (ChangeRoot ∷ ms) c = absurd c

pub chain_top : (N : Key → Type 0) (coming : ℕ) (coming_name : Option Key) (t l : ℕ) (ms : List Message) →
    t ≤ l →
    Chain N coming coming_name t l ms →
    ms ≡ []
chain_top N coming coming_name t l [] le c = refl
chain_top N coming coming_name t l (Initiate k f s ∷ ms) le c =
    let z = chain_rises N coming coming_name t k ms c.5 in absurd (omega (arith, z, c.0, le))
chain_top N coming coming_name t l (Connect k ∷ ms) le c = absurd c
chain_top N coming coming_name t l (Test k f ∷ ms) le c = absurd c
chain_top N coming coming_name t l (Accept ∷ ms) le c = absurd c
chain_top N coming coming_name t l (Reject ∷ ms) le c = absurd c
chain_top N coming coming_name t l (Report k ∷ ms) le c = absurd c
chain_top N coming coming_name t l (ChangeRoot ∷ ms) le c = absurd c

pub no_report : (N : Key → Type 0) (coming : ℕ) (coming_name : Option Key) (t l : ℕ) (k : Option Key) (ms xs : List Message) →
    xs ≡ Report k ∷ ms →
    Chain N coming coming_name t l xs →
    ⊥
no_report N coming coming_name t l k ms xs e c = subst (Chain N coming coming_name t l) e c

pub no_plain : (l v : ℕ) (n : Key) (a b : Stage) (k : Option Key) (ms : List Message) → asked l b ++ called v n a ≡ Report k ∷ ms → ⊥
no_plain l v n a Asking k ms e = cc
no_plain l v n Asking Called k ms e = cc
no_plain l v n Called Called k ms e = cc
no_plain l v n Begun Called k ms e = cc
no_plain l v n Asking Begun k ms e = cc
no_plain l v n Called Begun k ms e = cc
no_plain l v n Begun Begun k ms e = cc

begun : (e : TreeEnd) (v : ℕ) (n : Key) (a b : Stage) (k r : Option Key) (ms : List Message) →
    AtStage e a →
    b ≡ Begun →
    Served b a →
    called v n a ++ Report r ∷ [] ≡ Report k ∷ ms →
    e.level ≡ e.coming
begun e v n Asking Asking k r ms at s served q = absurd (let z = s in cc)
begun e v n Asking Called k r ms at s served q = absurd (let z = s in cc)
begun e v n Asking Begun k r ms at s served q = absurd served
begun e v n Called b k r ms at s served q = absurd (let z = q in cc)
begun e v n Begun b k r ms at s served q = at

-- where a message waits that no lone Connect is, the link is joined
pub joined_by : {N : ℕ → Key → Type 0} (e f : TreeEnd) →
    TreeFits N e f →
    TreeFits N f e →
    e.tree ≢ [] →
    ((l : ℕ) → e.tree ≢ Connect l ∷ []) →
    Joins e f
joined_by e f he hf some other = ⊎_elim here not_here (mark_is e.mark)
  where
    here : e.mark ≡ Branch → Joins e f
    here a = ⊎_elim (λ b. record { here = a; there = b }) (λ b. absurd (some (he.out_connect (record { here = a; there = b })).none)) (mark_is f.mark)

    not_here : e.mark ≢ Branch → Joins e f
    not_here a =
        ⊎_elim (λ b. absurd (other f.level (hf.out_connect (record { here = b; there = a })).one)) (λ b. absurd (some (he.silent a b)))
        (mark_is f.mark)

pub record Heard (e f : TreeEnd) (k : Option Key) : Type 0 where
  pub child : Child f e
  pub tree : e.tree ≡ Report k ∷ []
  pub reported : Reported f k

module _ {N : ℕ → Key → Type 0} (e f : TreeEnd) (he : TreeFits N e f) (hf : TreeFits N f e) (ups : Joins e f → Ups e ⊎ Ups f)
    (k : Option Key) (ms : List Message) (waits : e.tree ≡ Report k ∷ ms) where
  pub joined : Joins e f
  joined = joined_by e f he hf (λ z. cc) (λ l' z. cc)

  pub heard_first : e.in_branch ≢ Some e.port → Heard e f k
  heard_first away = go (joint e f joined (ups joined))
    where
      up : (c : Child f e) → Upward f e → Heard e f k
      up c (Nothing_up q) = absurd (let z = q in cc)
      up c (Report_up r q h) =
          let same : r ≡ k = (let y : Report r ∷ [] ≡ Report k ∷ ms = sym q ∙ waits in cc) in
          record { child = c; tree = subst (λ z. e.tree ≡ Report z ∷ []) same q; reported = subst (Reported f) same h }

      down : Downward (N e.fragment) e f → Heard e f k
      down (Initiates c) = absurd (no_report _ _ _ _ _ k ms e.tree waits c)
      down (Old_report r xs q h c) = absurd (away h.in_branch)

      core : (c : Core e f) → (z : CoreFits e f) → CoreQueue e f z.here z.there → Heard e f k
      core c z (Plain q) = absurd (no_plain _ _ _ z.here z.there k ms (sym q ∙ waits))
      core c z (With_report r q s p b) =
          absurd
          (away ((he.core_ends joined c.named).at_top (begun e e.coming e.key z.here z.there k r ms z.at_here s z.served_beyond (sym q ∙ waits))))

      moved : MovedFits e f → Heard e f k
      moved (To_here m) = absurd (let z = m.queue in cc)
      moved (To_there m) = absurd (let z = m.queue_beyond in cc)

      go : Joint e f → Heard e f k
      go (Down_here c) = down (he.downward c)
      go (Down_there c) = up c (hf.upward c)
      go (On_core c) = let z = he.core_queues c in core c z z.queue
      go (On_moved c) = moved (he.moved_root c)
