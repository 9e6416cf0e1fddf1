-- What differs at a node after a reaction, applied to the node before it, is the node after it.
use Rattle.std.proofs.Common.{◌≡◌, ℕ, ◌==◌, Bool, true, false, not, ◌&&◌, ◌||◌, List, [], ◌∷◌, ◌++◌, Option, Some, None, refl, sym, ◌∙◌, ap, eqb-true, slice_set}
use Rattle.std.proofs.lemmas.Bool.{and_parts}
use Rattle.std.proofs.lemmas.List.{set-get_or}
use Rattle.ghs_graph.specs.declared.key.Key.{Key}
use Rattle.ghs_node.specs.declared.head.Head.{Head}
use Rattle.ghs_node.specs.declared.delta.Delta.{Delta}
use Rattle.ghs_node.specs.declared.mark.Mark.{Mark}
use Rattle.ghs_node.specs.declared.mark.Mark.TheVariants.{Basic, Branch, Rejected}
use Rattle.ghs_node.specs.declared.message.Phase.{Phase}
use Rattle.ghs_node.specs.Phases.{same_phase}
use Rattle.ghs_node.specs.Words.{Best, key_eq}
use Rattle.ghs_node.proofs.lemmas.{same_phase_is}
use Rattle.ghs_node.specs.NodeState.{NodeState, mark_at, with_mark}
use Rattle.ghs_node.specs.Reaction.{after}
use Rattle.ghs_steps.specs.declared.change.Change.{Change}
use Rattle.ghs_steps.specs.declared.change.Change.TheVariants as change
use Rattle.ghs_steps.specs.Changes.{changes, fragment_changes, mark_change, same_best, same_key, same_mark, same_port, search_changes, unless}
use Rattle.ghs_steps.specs.Deltas.{with_change, with_changes}

-- what tests as the same is the same

key_same : (k l : Key) → key_eq k l ≡ true → k ≡ l
key_same k l t =
    let h = and_parts (k.weight == l.weight) ((k.a == l.a) && (k.b == l.b)) t in
    let g = and_parts (k.a == l.a) (k.b == l.b) h.1 in
    λ i. record { weight = eqb-true k.weight l.weight h.0 i; a = eqb-true k.a l.a g.0 i; b = eqb-true k.b l.b g.1 i }

mark_same : (m k : Mark) → same_mark m k ≡ true → m ≡ k
mark_same Basic Basic t = refl
mark_same Basic Branch t = cc
mark_same Basic Rejected t = cc
mark_same Branch Basic t = cc
mark_same Branch Branch t = refl
mark_same Branch Rejected t = cc
mark_same Rejected Basic t = cc
mark_same Rejected Branch t = cc
mark_same Rejected Rejected t = refl

name_same : (k l : Option Key) → same_key k l ≡ true → k ≡ l
name_same None None t = refl
name_same None (Some l) t = cc
name_same (Some k) None t = cc
name_same (Some k) (Some l) t = ap Some (key_same k l t)

port_same : (p q : Option ℕ) → same_port p q ≡ true → p ≡ q
port_same None None t = refl
port_same None (Some q) t = cc
port_same (Some p) None t = cc
port_same (Some p) (Some q) t = ap Some (eqb-true p q t)

best_same : (b c : Best) → same_best b c ≡ true → b ≡ c
best_same None None t = refl
best_same None (Some c) t = cc
best_same (Some b) None t = cc
best_same (Some b) (Some c) t =
    let h = and_parts (b.0 == c.0) (key_eq b.1 c.1) t in
    ap Some (λ i. (eqb-true b.0 c.0 h.0 i, key_same b.1 c.1 h.1 i))

-- one change after another

changes_append : (n : NodeState) (cs ds : List Change) → with_changes n (cs ++ ds) ≡ with_changes (with_changes n cs) ds
changes_append n [] ds = refl
changes_append n (c ∷ cs) ds = changes_append (with_change n c) cs ds

-- a change that is told makes itself, and one that isn't would change nothing
unless_made : (n : NodeState) (same : Bool) (c : Change) → (same ≡ true → with_change n c ≡ n) → with_changes n (unless same c) ≡ with_change n c
unfolding unless
unless_made n true c h = sym (h refl)
unless_made n false c h = refl

-- after others
one_more : (n x : NodeState) (cs : List Change) (same : Bool) (c : Change) → with_changes n cs ≡ x → (same ≡ true → with_change x c ≡ x) →
    with_changes n (cs ++ unless same c) ≡ with_change x c
one_more n x cs same c e h = changes_append n cs (unless same c) ∙ (ap (λ y. with_changes y (unless same c)) e ∙ unless_made x same c h)

mark_made : (n : NodeState) (o : Option (ℕ × Mark)) → with_changes n (mark_change n o) ≡ record n { marks = with_mark n.marks o }
mark_made n None = refl
mark_made n (Some m) =
    unless_made n (same_mark (mark_at n m.0) m.1) (change.Mark m.0 m.1)
    (λ t.
    ap (λ ms. record n { marks = ms })
    (ap (λ x. slice_set n.marks m.0 x) (sym (mark_same (mark_at n m.0) m.1 t)) ∙ set-get_or n.marks m.0 Rejected))

fragment_made : (n : NodeState) (new : Head) →
    with_changes n (fragment_changes n.head new) ≡
    record n { head = record n.head { level = new.level; name = new.name; phase = new.phase; find_count = new.find_count } }
fragment_made n new =
    let old = n.head in
    let n1 = record n { head = record old { level = new.level } } in
    let n2 = record n { head = record old { level = new.level; name = new.name } } in
    let n3 = record n { head = record old { level = new.level; name = new.name; phase = new.phase } } in
    let l1 = unless (old.level == new.level) (change.Level new.level) in
    let l2 = l1 ++ unless (same_key old.name new.name) (change.Name new.name) in
    let l3 = l2 ++ unless (same_phase old.phase new.phase) (change.Phase new.phase) in
    let first : with_changes n l1 ≡ n1 =
    unless_made n (old.level == new.level) (change.Level new.level)
    (λ t. ap (λ x. record n { head = record old { level = x } }) (sym (eqb-true old.level new.level t))) in
    let second : with_changes n l2 ≡ n2 =
    one_more n n1 l1 (same_key old.name new.name) (change.Name new.name) first
    (λ t. ap (λ x. record n1 { head = record n1.head { name = x } }) (sym (name_same old.name new.name t))) in
    let third : with_changes n l3 ≡ n3 =
    one_more n n2 l2 (same_phase old.phase new.phase) (change.Phase new.phase) second
    (λ t. ap (λ x. record n2 { head = record n2.head { phase = x } }) (sym (same_phase_is old.phase new.phase t))) in
    one_more n n3 l3 (old.find_count == new.find_count) (change.FindCount new.find_count) third
    (λ t. ap (λ x. record n3 { head = record n3.head { find_count = x } }) (sym (eqb-true old.find_count new.find_count t)))

halt_made : (n : NodeState) (old new : Bool) → n.head.halted ≡ old → (old ≡ true → new ≡ true) →
    with_changes n (unless (old || not new) change.Halted) ≡ record n { head = record n.head { halted = new } }
unfolding unless
halt_made n true true e h = ap (λ x. record n { head = record n.head { halted = x } }) e
halt_made n true false e h = let wrong = h refl in cc
halt_made n false true e h = refl
halt_made n false false e h = ap (λ x. record n { head = record n.head { halted = x } }) e

search_made : (n : NodeState) (old new : Head) → n.head.in_branch ≡ old.in_branch → n.head.best ≡ old.best → n.head.probe ≡ old.probe →
    n.head.halted ≡ old.halted → (old.halted ≡ true → new.halted ≡ true) →
    with_changes n (search_changes old new) ≡
    record n { head = record n.head { in_branch = new.in_branch; best = new.best; probe = new.probe; halted = new.halted } }
search_made n old new eb et ep eh h =
    let n1 = record n { head = record n.head { in_branch = new.in_branch } } in
    let n2 = record n { head = record n.head { in_branch = new.in_branch; best = new.best } } in
    let n3 = record n { head = record n.head { in_branch = new.in_branch; best = new.best; probe = new.probe } } in
    let l1 = unless (same_port old.in_branch new.in_branch) (change.InBranch new.in_branch) in
    let l2 = l1 ++ unless (same_best old.best new.best) (change.Best new.best) in
    let l3 = l2 ++ unless (same_port old.probe new.probe) (change.Probe new.probe) in
    let first : with_changes n l1 ≡ n1 =
    unless_made n (same_port old.in_branch new.in_branch) (change.InBranch new.in_branch)
    (λ t. ap (λ x. record n { head = record n.head { in_branch = x } }) (sym (eb ∙ port_same old.in_branch new.in_branch t))) in
    let second : with_changes n l2 ≡ n2 =
    one_more n n1 l1 (same_best old.best new.best) (change.Best new.best) first
    (λ t. ap (λ x. record n1 { head = record n1.head { best = x } }) (sym (et ∙ best_same old.best new.best t))) in
    let third : with_changes n l3 ≡ n3 =
    one_more n n2 l2 (same_port old.probe new.probe) (change.Probe new.probe) second
    (λ t. ap (λ x. record n2 { head = record n2.head { probe = x } }) (sym (ep ∙ port_same old.probe new.probe t))) in
    let last = unless (old.halted || not new.halted) change.Halted in
    changes_append n l3 last ∙ (ap (λ y. with_changes y last) third ∙ halt_made n3 old.halted new.halted eh h)

pub changes_made : (n : NodeState) (d : Delta) → (n.head.halted ≡ true → d.head.halted ≡ true) → with_changes n (changes n d) ≡ after n d
changes_made n d h =
    let n1 = record n { marks = with_mark n.marks d.mark } in
    let n2 = record n1 { head = record n.head { level = d.head.level; name = d.head.name; phase = d.head.phase; find_count = d.head.find_count } } in
    let ms = mark_change n d.mark in
    let fs = fragment_changes n.head d.head in
    let ss = search_changes n.head d.head in
    let first : with_changes n (ms ++ fs) ≡ n2 =
    changes_append n ms fs ∙ (ap (λ x. with_changes x fs) (mark_made n d.mark) ∙ fragment_made n1 d.head) in
    changes_append n (ms ++ fs) ss ∙ (ap (λ x. with_changes x ss) first ∙ search_made n2 n.head d.head refl refl refl refl h)
