-- What came at ports and goes out there, port by port.
use Rattle.std.proofs.Common.{◌≡◌, ℕ, ◌+◌, Option, Some, None, List, [], ◌∷◌, ◌++◌, get_or, sym, ◌∙◌, ap, add-one, append_assoc, append-nil}
use Rattle.ghs_graph.specs.declared.key.Key.{Key}
use Rattle.peer_machine.specs.Rules.{Outgoing}
use Rattle.gather_node.specs.declared.message.Message.{Message}
use Rattle.gather_node.specs.declared.message.Message.TheVariants.{Tree}
use Rattle.gather_node.specs.Forest.{common}
use Rattle.gather_node.specs.Reaction.{tree_at, trees}
use Rattle.gather_node.specs.State.{links_at, links_to}

known_more : (own ks ks' : List Key) (bs : List (Option (List Key))) (p : ℕ) (b : Option (List Key)) → ks ≡ own ++ links_to p bs →
    get_or bs p None ≡ b → ks' ≡ ks ++ links_at b → ks' ≡ own ++ links_to (p + 1) bs
known_more own ks ks' bs p b e at q =
    q ∙ ap (λ (l : List Key). l ++ links_at b) e ∙ append_assoc own (links_to p bs) (links_at b)
    ∙ ap (λ (x : Option (List Key)). own ++ (links_to p bs ++ links_at x)) (sym at) ∙ ap (λ n. own ++ links_to n bs) (sym (add-one p))

pub known_some : (own ks ks' links : List Key) (bs : List (Option (List Key))) (p : ℕ) → ks ≡ own ++ links_to p bs →
    get_or bs p None ≡ Some links → ks' ≡ ks ++ links → ks' ≡ own ++ links_to (p + 1) bs
known_some own ks ks' links bs p e at q = known_more own ks ks' bs p (Some links) e at q

pub known_none : (own ks ks' : List Key) (bs : List (Option (List Key))) (p : ℕ) → ks ≡ own ++ links_to p bs →
    get_or bs p None ≡ None → ks' ≡ ks → ks' ≡ own ++ links_to (p + 1) bs
known_none own ks ks' bs p e at q = known_more own ks ks' bs p None e at (q ∙ sym (append-nil ks))

trees_more : (first ss ss' : Outgoing Message) (tree : List Key) (bs : List (Option (List Key))) (p : ℕ) (b : Option (List Key)) →
    ss ≡ first ++ trees tree p bs → get_or bs p None ≡ b → ss' ≡ ss ++ tree_at tree p b → ss' ≡ first ++ trees tree (p + 1) bs
trees_more first ss ss' tree bs p b e at q =
    q ∙ ap (λ (l : Outgoing Message). l ++ tree_at tree p b) e ∙ append_assoc first (trees tree p bs) (tree_at tree p b)
    ∙ ap (λ (x : Option (List Key)). first ++ (trees tree p bs ++ tree_at tree p x)) (sym at)
    ∙ ap (λ n. first ++ trees tree n bs) (sym (add-one p))

pub trees_some : (first ss ss' : Outgoing Message) (tree sent both : List Key) (bs : List (Option (List Key))) (p : ℕ) →
    ss ≡ first ++ trees tree p bs → get_or bs p None ≡ Some sent → both ≡ common tree sent → ss' ≡ ss ++ (p, Tree both) ∷ [] →
    ss' ≡ first ++ trees tree (p + 1) bs
trees_some first ss ss' tree sent both bs p e at c q =
    trees_more first ss ss' tree bs p (Some sent) e at (q ∙ ap (λ (l : List Key). ss ++ (p, Tree l) ∷ []) c)

pub trees_none : (first ss ss' : Outgoing Message) (tree : List Key) (bs : List (Option (List Key))) (p : ℕ) →
    ss ≡ first ++ trees tree p bs → get_or bs p None ≡ None → ss' ≡ ss → ss' ≡ first ++ trees tree (p + 1) bs
trees_none first ss ss' tree bs p e at q = trees_more first ss ss' tree bs p None e at (q ∙ sym (append-nil ss))
