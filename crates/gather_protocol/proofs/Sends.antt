-- What goes out in a reaction, port by port.
use Rattle.std.proofs.Common.{◌≡◌, ◌≢◌, ℕ, zero, suc, ◌<◌, ◌≤◌, ◌==◌, Bool, true, false, Option, Some, None, List, [], ◌∷◌, ◌++◌, cond, refl, sym, ◌∙◌, ap, subst, ⊎_elim, arith, append-nil, eq-eqb, ne_eqb, get_or}
use Rattle.std.specs.Prelude.{filter}
use Rattle.std.proofs.lemmas.Bool.{cases_eq}
use Rattle.std.proofs.lemmas.List.Elements.{filter-append}
use Rattle.ghs_graph.specs.declared.key.Key.{Key}
use Rattle.peer_machine.specs.Rules.{Outgoing}
use Rattle.gather_node.specs.declared.message.Message.{Message}
use Rattle.gather_node.specs.declared.message.Message.TheVariants.{Explore, Back, Tree}
use Rattle.gather_node.specs.Forest.{common, forest}
use Rattle.gather_node.specs.Reaction.{closed, due, explores, in_wave, joins_wave, tree_at, trees}
use Rattle.gather_node.specs.State.{State, degree, is_that, known}
use Rattle.gather_protocol.proofs.Accounts.{cond_nil, on_port, on_port_append}

-- messages of wave x, and those of the tree
abbrev pub is_of : ℕ → Message → Bool
is_of x (Explore y) = y == x
is_of x (Back y ks) = y == x
is_of x (Tree ks) = false

abbrev pub is_tree : Message → Bool
is_tree (Explore y) = false
is_tree (Back y ks) = false
is_tree (Tree ks) = true

-- What a node has sent over port i in wave x.

abbrev pub asked : ℕ → Option ℕ → ℕ → List Message
asked x parent i = cond (is_that parent i) [] (Explore x ∷ [])

abbrev pub back_of : ℕ → ℕ → List Key → List Message
back_of x zero ks = Back x (forest ks) ∷ []
back_of x (suc k) ks = []

abbrev pub replied : ℕ → Option ℕ → ℕ → List Key → ℕ → List Message
replied x parent awaits ks i = cond (is_that parent i) (back_of x awaits ks) []

abbrev pub sent_on : Bool → ℕ → Option ℕ → ℕ → List Key → ℕ → List Message
sent_on joined x parent awaits ks i = cond joined (asked x parent i ++ replied x parent awaits ks i) []

-- and of the tree
abbrev pub tree_of : List Key → Option (List Key) → List Message
tree_of tree None = []
tree_of tree (Some sent) = Tree (common tree sent) ∷ []

-- Lists of messages, by port.

one_there : (b : Bool) (x n : ℕ) → on_port n (cond b [] ((n, Explore x) ∷ [])) ≡ cond b [] (Explore x ∷ [])
one_there true x n = refl
one_there false x n = rw (eq-eqb n n refl) refl

one_elsewhere : (b : Bool) (x n i : ℕ) → n ≢ i → ◌≡◌ {A = List Message} (on_port i (cond b [] ((n, Explore x) ∷ []))) []
one_elsewhere true x n i ne = refl
one_elsewhere false x n i ne = rw (ne_eqb n i ne) refl

unexplored : (x n i : ℕ) (out : Option ℕ) → n ≤ i → ◌≡◌ {A = List Message} (on_port i (explores x n out)) []
unexplored x zero i out le = refl
unexplored x (suc n) i out le =
    on_port_append i (explores x n out) (cond (is_that out n) [] ((n, Explore x) ∷ []))
    ∙ ap (λ (l : List Message). l ++ on_port i (cond (is_that out n) [] ((n, Explore x) ∷ []))) (unexplored x n i out (omega arith))
    ∙ one_elsewhere (is_that out n) x n i (λ e. omega (arith, e, le))

pub explored_on : (x n i : ℕ) (out : Option ℕ) → i < n → on_port i (explores x n out) ≡ asked x out i
explored_on x zero i out lt = absurd (omega arith)
explored_on x (suc n) i out lt = ⊎_elim here (there (λ l. explored_on x n i out l)) (cases_eq i n)
  where
    last : Outgoing Message
    last = cond (is_that out n) [] ((n, Explore x) ∷ [])

    here : i ≡ n → on_port i (explores x (suc n) out) ≡ asked x out i
    here e =
        let z : on_port n (explores x (suc n) out) ≡ asked x out n =
        on_port_append n (explores x n out) last ∙ ap (λ (l : List Message). l ++ on_port n last) (unexplored x n n out (omega arith))
        ∙ one_there (is_that out n) x n in
        subst (λ j. on_port j (explores x (suc n) out) ≡ asked x out j) (sym e) z

    there : (i < n → on_port i (explores x n out) ≡ asked x out i) → i ≢ n → on_port i (explores x (suc n) out) ≡ asked x out i
    there ih ne =
        on_port_append i (explores x n out) last ∙ ap (λ (l : List Message). on_port i (explores x n out) ++ l)
        (one_elsewhere (is_that out n) x n i (λ e. ne (sym e))) ∙ append-nil (on_port i (explores x n out))
        ∙ ih (omega (arith, lt, ne))

-- trees
tree_here : (tree : List Key) (n : ℕ) (b : Option (List Key)) → on_port n (tree_at tree n b) ≡ tree_of tree b
tree_here tree n None = refl
tree_here tree n (Some sent) = rw (eq-eqb n n refl) refl

tree_elsewhere : (tree : List Key) (n i : ℕ) (b : Option (List Key)) → n ≢ i → ◌≡◌ {A = List Message} (on_port i (tree_at tree n b)) []
tree_elsewhere tree n i None ne = refl
tree_elsewhere tree n i (Some sent) ne = rw (ne_eqb n i ne) refl

untold : (tree : List Key) (n i : ℕ) (bs : List (Option (List Key))) → n ≤ i → ◌≡◌ {A = List Message} (on_port i (trees tree n bs)) []
untold tree zero i bs le = refl
untold tree (suc n) i bs le =
    on_port_append i (trees tree n bs) (tree_at tree n (get_or bs n None))
    ∙ ap (λ (l : List Message). l ++ on_port i (tree_at tree n (get_or bs n None))) (untold tree n i bs (omega arith))
    ∙ tree_elsewhere tree n i (get_or bs n None) (λ e. omega (arith, e, le))

pub told_on : (tree : List Key) (n i : ℕ) (bs : List (Option (List Key))) → i < n → on_port i (trees tree n bs) ≡ tree_of tree (get_or bs i None)
told_on tree zero i bs lt = absurd (omega arith)
told_on tree (suc n) i bs lt = ⊎_elim here (there (λ l. told_on tree n i bs l)) (cases_eq i n)
  where
    last : Outgoing Message
    last = tree_at tree n (get_or bs n None)

    here : i ≡ n → on_port i (trees tree (suc n) bs) ≡ tree_of tree (get_or bs i None)
    here e =
        let z : on_port n (trees tree (suc n) bs) ≡ tree_of tree (get_or bs n None) =
        on_port_append n (trees tree n bs) last ∙ ap (λ (l : List Message). l ++ on_port n last) (untold tree n n bs (omega arith))
        ∙ tree_here tree n (get_or bs n None) in
        subst (λ j. on_port j (trees tree (suc n) bs) ≡ tree_of tree (get_or bs j None)) (sym e) z

    there : (i < n → on_port i (trees tree n bs) ≡ tree_of tree (get_or bs i None)) → i ≢ n →
        on_port i (trees tree (suc n) bs) ≡ tree_of tree (get_or bs i None)
    there ih ne =
        on_port_append i (trees tree n bs) last ∙ ap (λ (l : List Message). on_port i (trees tree n bs) ++ l)
        (tree_elsewhere tree n i (get_or bs n None) (λ e. ne (sym e))) ∙ append-nil (on_port i (trees tree n bs))
        ∙ ih (omega (arith, lt, ne))

-- Messages by their wave.

pub tree_of_none : (y : ℕ) (tree : List Key) (b : Option (List Key)) → ◌≡◌ {A = List Message} (filter (is_of y) (tree_of tree b)) []
tree_of_none y tree None = refl
tree_of_none y tree (Some sent) = refl

pub tree_of_all : (tree : List Key) (b : Option (List Key)) → filter is_tree (tree_of tree b) ≡ tree_of tree b
tree_of_all tree None = refl
tree_of_all tree (Some sent) = refl

pub asked_all : (x : ℕ) (parent : Option ℕ) (i : ℕ) → filter (is_of x) (asked x parent i) ≡ asked x parent i
asked_all x parent i = go (is_that parent i)
  where
    go : (b : Bool) → filter (is_of x) (cond b [] (Explore x ∷ [])) ≡ cond b [] (Explore x ∷ [])
    go true = refl
    go false = rw (eq-eqb x x refl) refl

pub asked_none : (x y : ℕ) (parent : Option ℕ) (i : ℕ) → x ≢ y → ◌≡◌ {A = List Message} (filter (is_of y) (asked x parent i)) []
asked_none x y parent i ne = go (is_that parent i)
  where
    go : (b : Bool) → ◌≡◌ {A = List Message} (filter (is_of y) (cond b [] (Explore x ∷ []))) []
    go true = refl
    go false = rw (ne_eqb x y ne) refl

pub asked_no_tree : (x : ℕ) (parent : Option ℕ) (i : ℕ) → ◌≡◌ {A = List Message} (filter is_tree (asked x parent i)) []
asked_no_tree x parent i = go (is_that parent i)
  where
    go : (b : Bool) → ◌≡◌ {A = List Message} (filter is_tree (cond b [] (Explore x ∷ []))) []
    go true = refl
    go false = refl

pub replied_all : (x : ℕ) (parent : Option ℕ) (awaits : ℕ) (ks : List Key) (i : ℕ) →
    filter (is_of x) (replied x parent awaits ks i) ≡ replied x parent awaits ks i
replied_all x parent awaits ks i = go (is_that parent i) awaits
  where
    go : (b : Bool) (a : ℕ) → filter (is_of x) (cond b (back_of x a ks) []) ≡ cond b (back_of x a ks) []
    go true zero = rw (eq-eqb x x refl) refl
    go true (suc k) = refl
    go false a = refl

pub replied_none : (x y : ℕ) (parent : Option ℕ) (awaits : ℕ) (ks : List Key) (i : ℕ) → x ≢ y →
    ◌≡◌ {A = List Message} (filter (is_of y) (replied x parent awaits ks i)) []
replied_none x y parent awaits ks i ne = go (is_that parent i) awaits
  where
    go : (b : Bool) (a : ℕ) → ◌≡◌ {A = List Message} (filter (is_of y) (cond b (back_of x a ks) [])) []
    go true zero = rw (ne_eqb x y ne) refl
    go true (suc k) = refl
    go false a = refl

pub replied_no_tree : (x : ℕ) (parent : Option ℕ) (awaits : ℕ) (ks : List Key) (i : ℕ) →
    ◌≡◌ {A = List Message} (filter is_tree (replied x parent awaits ks i)) []
replied_no_tree x parent awaits ks i = go (is_that parent i) awaits
  where
    go : (b : Bool) (a : ℕ) → ◌≡◌ {A = List Message} (filter is_tree (cond b (back_of x a ks) [])) []
    go true zero = refl
    go true (suc k) = refl
    go false a = refl

-- where something waits still, nothing was replied
pub not_replied : (x : ℕ) (parent : Option ℕ) (k : ℕ) (ks : List Key) (i : ℕ) → ◌≡◌ {A = List Message} (replied x parent (suc k) ks i) []
not_replied x parent k ks i = cond_nil (is_that parent i)

-- What a closing sends.

-- whether a node that awaits so many, with this parent, is a leader that knows the tree
abbrev pub leads : ℕ → Option ℕ → Bool
leads zero None = true
leads zero (Some q) = false
leads (suc k) parent = false

-- a node as it was but for what it knows of the tree
pub record SameStand (m n : State) : Type 0 where
  pub number : m.number ≡ n.number
  pub keys : m.keys ≡ n.keys
  pub wave : m.head.wave ≡ n.head.wave
  pub parent : m.head.parent ≡ n.head.parent
  pub awaits : m.head.awaits ≡ n.head.awaits
  pub brought : m.brought ≡ n.brought

pub same_stand : (n : State) → SameStand n n
same_stand n = record { number = refl; keys = refl; wave = refl; parent = refl; awaits = refl; brought = refl }

pub closed_stand : (n : State) (x a : ℕ) (parent : Option ℕ) (ss : Outgoing Message) → SameStand (closed n x a parent ss).state n
closed_stand n x (suc k) parent ss = same_stand n
closed_stand n x zero (Some q) ss = same_stand n
closed_stand n x zero None ss = record { number = refl; keys = refl; wave = refl; parent = refl; awaits = refl; brought = refl }

module _ (n : State) (x : ℕ) (ss : Outgoing Message) (i : ℕ) (lt : i < degree n) where
  pub closed_of : (y a : ℕ) (parent : Option ℕ) →
      filter (is_of y) (on_port i (closed n x a parent ss).sends) ≡
      filter (is_of y) (on_port i ss) ++ filter (is_of y) (replied x parent a (known n) i)
  closed_of y (suc k) parent =
      sym (append-nil (filter (is_of y) (on_port i ss)))
      ∙ ap (λ (l : List Message). filter (is_of y) (on_port i ss) ++ filter (is_of y) l) (sym (not_replied x parent k (known n) i))
  closed_of y zero (Some q) =
      ap (filter (is_of y)) (on_port_append i ss ((q, Back x (forest (known n))) ∷ []))
      ∙ filter-append (is_of y) (on_port i ss) (on_port i ((q, Back x (forest (known n))) ∷ []))
  closed_of y zero None =
      ap (filter (is_of y)) (on_port_append i ss (trees (forest (known n)) (degree n) n.brought))
      ∙ filter-append (is_of y) (on_port i ss) (on_port i (trees (forest (known n)) (degree n) n.brought))
      ∙ ap (λ (l : List Message). filter (is_of y) (on_port i ss) ++ filter (is_of y) l) (told_on (forest (known n)) (degree n) i n.brought lt)
      ∙ ap (λ (l : List Message). filter (is_of y) (on_port i ss) ++ l) (tree_of_none y (forest (known n)) (get_or n.brought i None))

  pub closed_trees : (a : ℕ) (parent : Option ℕ) →
      filter is_tree (on_port i (closed n x a parent ss).sends) ≡
      filter is_tree (on_port i ss) ++ cond (leads a parent) (tree_of (forest (known n)) (get_or n.brought i None)) []
  closed_trees (suc k) parent = sym (append-nil (filter is_tree (on_port i ss)))
  closed_trees zero (Some q) =
      ap (filter is_tree) (on_port_append i ss ((q, Back x (forest (known n))) ∷ []))
      ∙ filter-append is_tree (on_port i ss) (on_port i ((q, Back x (forest (known n))) ∷ []))
      ∙ ap (λ (l : List Message). filter is_tree (on_port i ss) ++ l) (replied_no_tree x (Some q) 0 (known n) i)
  closed_trees zero None =
      ap (filter is_tree) (on_port_append i ss (trees (forest (known n)) (degree n) n.brought))
      ∙ filter-append is_tree (on_port i ss) (on_port i (trees (forest (known n)) (degree n) n.brought))
      ∙ ap (λ (l : List Message). filter is_tree (on_port i ss) ++ filter is_tree l) (told_on (forest (known n)) (degree n) i n.brought lt)
      ∙ ap (λ (l : List Message). filter is_tree (on_port i ss) ++ l) (tree_of_all (forest (known n)) (get_or n.brought i None))

-- What goes out in a wave.

-- who joins wave x has sent in it what it sends now, and nothing in others
pub joins_own : (n : State) (x : ℕ) (parent : Option ℕ) (i : ℕ) → i < degree n →
    filter (is_of x) (on_port i (joins_wave n x parent).sends) ≡
    sent_on true x parent (due (degree n) parent) (known (in_wave n x parent)) i
joins_own n x parent i lt =
    closed_of (in_wave n x parent) x (explores x (degree n) parent) i lt x (due (degree n) parent) parent
    ∙ ap (λ (l : List Message). filter (is_of x) l ++ filter (is_of x) (replied x parent (due (degree n) parent) (known (in_wave n x parent)) i))
    (explored_on x (degree n) i parent lt)
    ∙ ap (λ (l : List Message). l ++ filter (is_of x) (replied x parent (due (degree n) parent) (known (in_wave n x parent)) i))
    (asked_all x parent i)
    ∙ ap (λ (l : List Message). asked x parent i ++ l) (replied_all x parent (due (degree n) parent) (known (in_wave n x parent)) i)

pub joins_others : (n : State) (x y : ℕ) (parent : Option ℕ) (i : ℕ) → i < degree n → x ≢ y →
    ◌≡◌ {A = List Message} (filter (is_of y) (on_port i (joins_wave n x parent).sends)) []
joins_others n x y parent i lt ne =
    closed_of (in_wave n x parent) x (explores x (degree n) parent) i lt y (due (degree n) parent) parent
    ∙ ap (λ (l : List Message). filter (is_of y) l ++ filter (is_of y) (replied x parent (due (degree n) parent) (known (in_wave n x parent)) i))
    (explored_on x (degree n) i parent lt)
    ∙ ap (λ (l : List Message). l ++ filter (is_of y) (replied x parent (due (degree n) parent) (known (in_wave n x parent)) i))
    (asked_none x y parent i ne)
    ∙ replied_none x y parent (due (degree n) parent) (known (in_wave n x parent)) i ne
