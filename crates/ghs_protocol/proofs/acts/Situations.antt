-- What the clauses give of one node, of two nodes of a fragment, and of a mark that turns Rejected.
use Rattle.std.proofs.Common.{◌≡◌, ◌≢◌, ℕ, ◌<◌, ◌≤◌, Option, Some, None, refl, sym, ◌∙◌, ap, subst, ⊎_elim, ◌⊎◌, inl, inr, arith, List}
use Rattle.std.proofs.lemmas.Bool.{cases_eq}
use Rattle.ghs_graph.specs.declared.key.Key.{Key}
use Rattle.ghs_node.specs.declared.mark.Mark.{Mark}
use Rattle.ghs_node.specs.declared.mark.Mark.TheVariants.{Basic, Branch, Rejected}
use Rattle.ghs_node.specs.Words.{is_branch, Best}
use Rattle.ghs_node.specs.declared.message.Phase.{Phase}
use Rattle.ghs_node.specs.declared.message.Phase.TheVariants.{Sleeping, Find, Found}
use Rattle.ghs_node.specs.declared.message.Message.{Message}
use Rattle.peer_network.specs.Network.{Network, InNetwork}
use Rattle.ghs_protocol.proofs.clauses.Scene.{Member, Scene, TreeEnd, Forest}
use Rattle.ghs_protocol.proofs.clauses.Changes.{rejected, marked}
use Rattle.ghs_protocol.proofs.clauses.Nodes.{NodeFits, LevelLags}
use Rattle.ghs_protocol.proofs.clauses.TreeMessages.{TreeFits, CoreFits, Stage, Asking, Called, Begun, AtStage}
use Rattle.ghs_protocol.proofs.clauses.Search.{SearchFits}
use Rattle.ghs_protocol.proofs.clauses.Fragments.{Names, JoinedWithin}
use Rattle.ghs_protocol.proofs.clauses.Rest.{Alone}
use Rattle.ghs_protocol.proofs.clauses.Wiring.{IsKeyed}
use Rattle.peer_network.proofs.lemmas.Updates.{put_same, put_other}
use Rattle.ghs_protocol.proofs.acts.SameForest.{branch_mark}

pub is_find' : (s : Phase) → (s ≡ Find) ⊎ (s ≢ Find)
is_find' Find = inl refl
is_find' Found = inr (λ e. cc)
is_find' Sleeping = inr (λ e. cc)

-- who probes searches
pub probing_finds : {n : ℕ} {m : Member} {p : ℕ} → NodeFits n m → m.head.probe ≡ Some p → m.head.phase ≡ Find
probing_finds {n} {m} {p} fits e =
    ⊎_elim (λ h. h) (λ ne. let z = (fits.idle ne).0 in absurd (let k : m.head.probe ≡ None = z in cc)) (is_find' m.head.phase)

-- of one fragment: who is at the top has its level and name
pub tops_alike : (m k : Member) →
    LevelLags m →
    LevelLags k →
    m.coming ≡ k.coming →
    m.coming_name ≡ k.coming_name →
    m.head.level ≡ m.coming →
    k.head.level ≡ k.coming →
    (m.head.level ≡ k.head.level) × (m.head.name ≡ k.head.name)
tops_alike m k b c e h x y = (x ∙ e ∙ sym y, b.name x ∙ h ∙ sym (c.name y))

-- a Test from one's own fragment would have one's own name
pub named_apart : (m k : Member) (l : ℕ) (n : Key) →
    LevelLags m →
    LevelLags k →
    (k.fragment ≡ m.fragment → (k.coming ≡ m.coming) × (k.coming_name ≡ m.coming_name)) →
    l ≤ m.head.level →
    l ≡ k.head.level →
    k.head.level ≡ k.coming →
    k.head.name ≡ Some n →
    m.head.name ≢ Some n →
    k.fragment ≢ m.fragment
named_apart m k l n b c same le e top name other f =
    let s = same f in
    let top' : m.head.level ≡ m.coming = (let z = b.level in omega (arith, z, s.0, le, e, top)) in
    other (b.name top' ∙ sym s.1 ∙ sym (c.name top) ∙ name)

-- a name is of one fragment
pub one_fragment : (g : Network) (s : Forest) (a b : ℕ) (k : Key) → IsKeyed g → JoinedWithin g s → Names g s a k → Names g s b k → a ≡ b
one_fragment g s a b k keyed joined_within x y =
    ⊎_elim (λ h. sym x.fragment ∙ ap s.fragment h.0 ∙ y.fragment)
    (λ h. sym x.fragment ∙ joined_within _ _ x.at x.joined ∙ ap s.fragment h.0 ∙ y.fragment)
    (keyed _ _ _ _ x.at y.at (x.key ∙ sym y.key))

-- where one node of a fragment is awake, all are
pub all_awake : (g : Network) (w : Scene) → Alone g w → (u : ℕ) → InNetwork g u → (w.at u).head.phase ≢ Sleeping → (v : ℕ) → InNetwork g v →
    (w.at v).fragment ≡ (w.at u).fragment → (w.at v).head.phase ≢ Sleeping
all_awake g w alone u u_is awake v is same e =
    awake (subst (λ y. (w.at y).head.phase ≡ Sleeping) (sym (alone v u is u_is e (sym same))) e)

-- a core end that has begun is at the top
pub begun_at_top : (e : TreeEnd) (s : Stage) → s ≡ Begun → AtStage e s → e.level ≡ e.coming
begun_at_top e Begun i a = a
begun_at_top e Asking i a = cc
begun_at_top e Called i a = cc

-- a stage stays while messages are read
pub stage_read : (e : TreeEnd) (ms : List Message) (s : Stage) → AtStage e s → AtStage (record e { tree = ms }) s
stage_read e ms Asking h = h
stage_read e ms Called h = h
stage_read e ms Begun h = h

-- a core link seen from its other end
pub core_from_there : (e f : TreeEnd) → CoreFits e f → CoreFits f e
core_from_there e f z = record {
  here = z.there;
  there = z.here;
  at_here = z.at_there;
  at_there = z.at_here;
  served = z.served_beyond;
  served_beyond = z.served;
  queue = z.queue_beyond;
  queue_beyond = z.queue;
}

abbrev pub marked_as : TreeEnd → Mark → TreeEnd
marked_as e m = record e { mark = m }

-- a mark that isn't Branch, and won't be, on a link inside a fragment
module _ (e f : TreeEnd) (m : Mark) (was : e.mark ≢ Branch) (is : m ≢ Branch) (inside : e.fragment ≡ f.fragment) where
  pub tree_mark : {N : ℕ → Key → Type 0} → TreeFits N e f → TreeFits N (marked_as e m) f
  tree_mark h = record {
    out_connect = λ o. absurd (is o.here);
    silent = λ a b. h.silent was b;
    core_ends = λ j. absurd (is j.here);
    upward = λ c. absurd (is c.joins.here);
    downward = λ c. absurd (is c.joins.here);
    core_queues = λ c. absurd (is c.both.joins.here);
    moved_root = λ c. absurd (is c.both.joins.here);
  }

  pub tree_mark' : {N : ℕ → Key → Type 0} → TreeFits N f e → TreeFits N f (marked_as e m)
  tree_mark' h = record {
    out_connect = λ o. absurd ((h.out_connect (record { here = o.here; there = was })).apart inside);
    silent = λ a b. h.silent a was;
    core_ends = λ j. absurd (is j.there);
    upward = λ c. absurd (is c.joins.there);
    downward = λ c. absurd (is c.joins.there);
    core_queues = λ c. absurd (is c.both.joins.there);
    moved_root = λ c. absurd (is c.both.joins.there);
  }

  pub search_mark : SearchFits e f → SearchFits (marked_as e m) f
  search_mark h = record {
    rejected_inside = λ z. inside;
    find_leads = λ k b l z. let t = h.find_leads k b l was in record { key = t.key; apart = t.apart; higher = t.higher };
    find_reported = λ k b l j. absurd (is j.here);
  }

  pub search_mark' : SearchFits f e → SearchFits f (marked_as e m)
  search_mark' h = record {
    rejected_inside = h.rejected_inside;
    find_leads = λ k b l z. let t = h.find_leads k b l z in record { key = t.key; apart = t.apart; higher = t.higher };
    find_reported = λ k b l j. absurd (is j.there);
  }

module _ (e f : TreeEnd) (inside : e.fragment ≡ f.fragment) where
  pub tree_rejected : {N : ℕ → Key → Type 0} → (m : Mark) → TreeFits N (marked_as e m) f → TreeFits N (marked_as e (rejected m)) f
  tree_rejected Basic h = tree_mark (marked_as e Basic) f Rejected (λ z. cc) (λ z. cc) inside h
  tree_rejected Branch h = h
  tree_rejected Rejected h = h

  pub tree_rejected' : {N : ℕ → Key → Type 0} → (m : Mark) → TreeFits N f (marked_as e m) → TreeFits N f (marked_as e (rejected m))
  tree_rejected' Basic h = tree_mark' (marked_as e Basic) f Rejected (λ z. cc) (λ z. cc) inside h
  tree_rejected' Branch h = h
  tree_rejected' Rejected h = h

  pub search_rejected : (m : Mark) → SearchFits (marked_as e m) f → SearchFits (marked_as e (rejected m)) f
  search_rejected Basic h = search_mark (marked_as e Basic) f Rejected (λ z. cc) (λ z. cc) inside h
  search_rejected Branch h = h
  search_rejected Rejected h = h

  pub search_rejected' : (m : Mark) → SearchFits f (marked_as e m) → SearchFits f (marked_as e (rejected m))
  search_rejected' Basic h = search_mark' (marked_as e Basic) f Rejected (λ z. cc) (λ z. cc) inside h
  search_rejected' Branch h = h
  search_rejected' Rejected h = h

-- a node with other marks, probe, find_count and best
abbrev pub turned : Member → (ℕ → Mark) → Option ℕ → ℕ → Best → Member
turned m μ o c b = record m { mark = μ; head = record m.head { probe = o; find_count = c; best = b } }

pub node_turned : (n : ℕ) (m : Member) (μ : ℕ → Mark) (o : Option ℕ) (c : ℕ) (b : Best) →
    NodeFits n m →
    m.head.phase ≢ Sleeping →
    ((p : ℕ) → is_branch (μ p) ≡ is_branch (m.mark p)) →
    ((p : ℕ) → μ p ≢ Rejected → p < n) →
    ((p : ℕ) → o ≡ Some p → p < n) →
    (m.head.phase ≢ Find → (o ≡ None) × (◌≡◌ {A = ℕ} c 0)) →
    ((p : ℕ) → (k : Key) → b ≡ Some (p, k) → (p < n) × (m.head.in_branch ≢ Some p)) →
    NodeFits n (turned m μ o c b)
node_turned n m μ o c b fits awake branch within probe idle best = record {
  own_ports = record { probe = probe; in_branch = fits.own_ports.in_branch; mark = within };
  untouched = λ e. absurd (awake e);
  points = λ e lt.
      let z = fits.points e lt in
      record { port = z.port; up = z.up; within = z.within; mark = branch_mark _ (branch z.port ∙ ap is_branch z.mark) };
  idle = idle;
  searching = λ e. let z = fits.searching e in record { level = z.level; port = z.port; in_branch = z.in_branch; up = z.up };
  naming = record { level = fits.naming.level; in_branch = fits.naming.in_branch; name = fits.naming.name };
  lag = record { level = fits.lag.level; name = fits.lag.name };
  best_port = best;
}

-- the mark of port j turns Rejected if it is Basic
same_branch : (m : Mark) → is_branch (rejected m) ≡ is_branch m
same_branch Basic = refl
same_branch Branch = refl
same_branch Rejected = refl

pub branch_marked : (f : ℕ → Mark) (j p : ℕ) → is_branch (marked f j p) ≡ is_branch (f p)
branch_marked f j p =
    ⊎_elim (λ (e : p ≡ j).
    subst (λ z. is_branch (marked f j z) ≡ is_branch (f z)) (sym e) (ap is_branch (put_same f j (rejected (f j))) ∙ same_branch (f j)))
    (λ ne. ap is_branch (put_other f j p (rejected (f j)) ne))
    (cases_eq p j)

pub within_marked : (f : ℕ → Mark) (j n : ℕ) → j < n → ((p : ℕ) → f p ≢ Rejected → p < n) → (p : ℕ) → marked f j p ≢ Rejected → p < n
within_marked f j n lt h p ne =
    ⊎_elim (λ (e : p ≡ j). omega (arith, e, lt)) (λ no. h p (λ z. ne (put_other f j p (rejected (f j)) no ∙ z))) (cases_eq p j)

-- a mark that is neither Branch nor Rejected
pub basic_left : (m : Mark) → m ≢ Branch → m ≢ Rejected → m ≡ Basic
basic_left Basic a c = refl
basic_left Branch a c = absurd (a refl)
basic_left Rejected a c = absurd (c refl)
