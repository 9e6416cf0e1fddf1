-- What of a queue is left once its first message was taken, and what of marks and keys is read.
use Rattle.std.proofs.Common.{◌≡◌, ◌≢◌, Option, Some, None, subst, eq-eqb, ℕ, suc, ◌<◌, Bool, true, false, List, [], ◌∷◌, length, refl, sym, ◌∙◌, ap, ⊎_elim, get_or, set, get_or-set_same, get_or-set_other, arith}
use Rattle.std.proofs.Math.Path.{fun_ext}
use Rattle.std.proofs.Math.ListN.{get_or-map}
use Rattle.std.proofs.lemmas.Bool.{cases_eq}
use Rattle.ghs_graph.specs.declared.key.Key.{Key}
use Rattle.ghs_graph.specs.declared.port.Port.{Port}
use Rattle.ghs_node.specs.declared.mark.Mark.{Mark}
use Rattle.ghs_node.specs.declared.mark.Mark.TheVariants.{Basic, Branch, Rejected}
use Rattle.ghs_node.specs.declared.message.Message.{Message}
use Rattle.ghs_node.specs.declared.message.Message.TheVariants.{Connect, Initiate, Test, Accept, Reject, Report, ChangeRoot}
use Rattle.ghs_node.specs.NodeState.{NodeState, key_at, mark_at, with_mark, degree}
use Rattle.ghs_graph.specs.Key.{no_key}
use Rattle.ghs_node.specs.Words.{is_name}
use Rattle.ghs_node.specs.Reaction.{reject_at}
use Rattle.peer_network.specs.Network.{Network, port_at}
use Rattle.ghs_graph.specs.Ports.{no_port}
use Rattle.ghs_protocol.specs.Net.{Net}
use Rattle.peer_network.specs.Updates.{put}
use Rattle.ghs_protocol.specs.Nodes.{IsNodeOf}
use Rattle.ghs_protocol.proofs.clauses.Scene.{Seen, unseen, add, see, Ghost, scene}
use Rattle.ghs_protocol.proofs.clauses.Changes.{marked}
use Rattle.peer_network.proofs.lemmas.Updates.{put_same, put_other}
use Rattle.ghs_protocol.proofs.acts.AsRead.{both, same_seen, see_first}
use Rattle.ghs_protocol.proofs.acts.Reactions.{put_again}
use Rattle.ghs_protocol.proofs.clauses.Uniting.{MarksAre}
use Rattle.ghs_protocol.proofs.lemmas.Nodes.{ports_many}

-- Connect, Initiate, Report and ChangeRoot
abbrev pub is_tree : Message → Bool
is_tree (Connect l) = true
is_tree (Initiate l f s) = true
is_tree (Test l f) = false
is_tree Accept = false
is_tree Reject = false
is_tree (Report k) = true
is_tree ChangeRoot = true

first_tree : (m : Message) → is_tree m ≡ true → (q : Seen) → both (add unseen m) q ≡ record q { tree = m ∷ q.tree }
first_tree (Connect l) e q = same_seen _ _ refl refl (omega arith) (omega arith)
first_tree (Initiate l f s) e q = same_seen _ _ refl refl (omega arith) (omega arith)
first_tree (Test l f) e q = cc
first_tree Accept e q = cc
first_tree Reject e q = cc
first_tree (Report k) e q = same_seen _ _ refl refl (omega arith) (omega arith)
first_tree ChangeRoot e q = same_seen _ _ refl refl (omega arith) (omega arith)

module _ (q ms : List Message) where
  -- a tree message stands first
  module _ (m : Message) (tree : is_tree m ≡ true) (waits : q ≡ m ∷ ms) where
    pub seen : see q ≡ record (see ms) { tree = m ∷ (see ms).tree }
    seen = ap see waits ∙ see_first m ms ∙ first_tree m tree (see ms)

    pub tree_first : (see q).tree ≡ m ∷ (see ms).tree
    tree_first = ap (λ (s : Seen). s.tree) seen

    pub tree_left : record (see q) { tree = (see ms).tree } ≡ see ms
    tree_left = λ i. record (seen i) { tree = (see ms).tree }

    pub all_left : (see ms).tree ≡ [] → record (see q) { tree = [] } ≡ see ms
    all_left e = ap (λ (t : List Message). record (see q) { tree = t }) (sym e) ∙ tree_left

  -- an Accept or a Reject does
  pub accept_first : q ≡ Accept ∷ ms → (see q).accepts ≡ suc (see ms).accepts
  accept_first e =
      let z : (see q).accepts ≡ (both (add unseen Accept) (see ms)).accepts =
      ap (λ y. (see y).accepts) e ∙ ap (λ (s : Seen). s.accepts) (see_first Accept ms) in
      omega (arith, z)

  pub accept_left : q ≡ Accept ∷ ms → record (see q) { accepts = (see ms).accepts } ≡ see ms
  accept_left e =
      let s : see q ≡ both (add unseen Accept) (see ms) = ap see e ∙ see_first Accept ms in
      let r : (see q).rejects ≡ (see ms).rejects = (let z = ap (λ (z : Seen). z.rejects) s in omega (arith, z)) in
      λ i. record { tree = ap (λ (z : Seen). z.tree) s i; tests = ap (λ (z : Seen). z.tests) s i; accepts = (see ms).accepts; rejects = r i }

  pub reject_first : q ≡ Reject ∷ ms → (see q).rejects ≡ suc (see ms).rejects
  reject_first e =
      let z : (see q).rejects ≡ (both (add unseen Reject) (see ms)).rejects =
      ap (λ y. (see y).rejects) e ∙ ap (λ (s : Seen). s.rejects) (see_first Reject ms) in
      omega (arith, z)

  pub reject_left : q ≡ Reject ∷ ms → record (see q) { rejects = (see ms).rejects } ≡ see ms
  reject_left e =
      let s : see q ≡ both (add unseen Reject) (see ms) = ap see e ∙ see_first Reject ms in
      let r : (see q).accepts ≡ (see ms).accepts = (let z = ap (λ (z : Seen). z.accepts) s in omega (arith, z)) in
      λ i. record { tree = ap (λ (z : Seen). z.tree) s i; tests = ap (λ (z : Seen). z.tests) s i; accepts = r i; rejects = (see ms).rejects }

  pub test_first : (l : ℕ) (n : Key) → q ≡ Test l n ∷ ms → (see q).tests ≡ (l, n) ∷ (see ms).tests
  test_first l n e = ap (λ z. (see z).tests) e ∙ ap (λ (z : Seen). z.tests) (see_first (Test l n) ms)

  pub test_left : (l : ℕ) (n : Key) → q ≡ Test l n ∷ ms → record (see q) { tests = (see ms).tests } ≡ see ms
  test_left l n e =
      let s : see q ≡ both (add unseen (Test l n)) (see ms) = ap see e ∙ see_first (Test l n) ms in
      let a : (see q).accepts ≡ (see ms).accepts = (let z = ap (λ (z : Seen). z.accepts) s in omega (arith, z)) in
      let r : (see q).rejects ≡ (see ms).rejects = (let z = ap (λ (z : Seen). z.rejects) s in omega (arith, z)) in
      λ i. record { tree = ap (λ (z : Seen). z.tree) s i; tests = (see ms).tests; accepts = a i; rejects = r i }

-- marks, as a function of the port

-- a mark that is set
pub set_marks : (ms : List Mark) (j : ℕ) (m : Mark) →
    j < length ms →
    (λ (p : ℕ). get_or (set ms j m) p Rejected) ≡ put (λ p. get_or ms p Rejected) j m
set_marks ms j m lt =
    fun_ext
    (λ p. ⊎_elim
    (λ (e : p ≡ j). rw e (get_or-set_same ms j m Rejected lt ∙ sym (put_same (λ p. get_or ms p Rejected) j m)))
    (λ ne. get_or-set_other ms j p m Rejected ne ∙ sym (put_other (λ p. get_or ms p Rejected) j p m ne))
    (cases_eq p j))

-- the mark of port j, Rejected if it was Basic
pub reject_marks : (n : NodeState) (j : ℕ) →
    j < degree n →
    (λ (p : ℕ). get_or (with_mark n.marks (reject_at n j)) p Rejected) ≡ marked (λ p. mark_at n p) j
reject_marks n j lt = go (mark_at n j) refl
  where
    go : (m : Mark) → mark_at n j ≡ m → (λ (p : ℕ). get_or (with_mark n.marks (reject_at n j)) p Rejected) ≡ marked (λ p. mark_at n p) j
    go Basic e = rw e (set_marks n.marks j Rejected lt)
    go Branch e = rw e (sym (ap (put (λ p. mark_at n p) j) (sym e) ∙ put_again (λ p. mark_at n p) j))
    go Rejected e = rw e (sym (ap (put (λ p. mark_at n p) j) (sym e) ∙ put_again (λ p. mark_at n p) j))

-- a node's marks are those of its member
pub marks_are : (g : Network) (v : ℕ) (w : Net) (gh : Ghost) → IsNodeOf g v (w.node v) → MarksAre g v ((scene w gh).at v) (w.node v).marks
marks_are g v w gh is = record { ports = ports_many is; marks = λ i. refl }

-- a node's keys are those of its ports
pub key_is_port : (g : Network) (v : ℕ) (n : NodeState) (p : ℕ) → IsNodeOf g v n → key_at n p ≡ (port_at g v p).key
key_is_port g v n p is = ap (λ ks. get_or ks p no_key) is.keys ∙ get_or-map (λ (x : Port). x.key) (g.ports v) p no_port

-- names that are alike, and that aren't
pub same_name : (o : Option Key) (k : Key) → is_name o k ≡ true → o ≡ Some k
same_name None k e = cc
same_name (Some n) k e =
    let a : n.weight ≡ k.weight = search (arith, e) in
    let b : n.a ≡ k.a = search (arith, e) in
    let c : n.b ≡ k.b = search (arith, e) in
    λ i. Some (record { weight = a i; a = b i; b = c i })

pub other_name : (o : Option Key) (k : Key) → is_name o k ≡ false → o ≢ Some k
other_name o k h e =
    let t : is_name (Some k) k ≡ true = rw (eq-eqb k.weight k.weight refl, eq-eqb k.a k.a refl, eq-eqb k.b k.b refl) refl in
    let f : is_name (Some k) k ≡ false = subst (λ y. is_name y k ≡ false) e h in
    cc (t, f)
