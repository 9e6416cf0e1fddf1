-- The root moves towards the best link, over a link of the fragment.
use Rattle.std.proofs.Common.{◌≡◌, ◌≢◌, ℕ, ◌≤◌, true, Some, None, List, [], ◌∷◌, ◌++◌, refl, sym, ◌∙◌, ap, ap₂, subst, subst₂, ⊎_elim, inl, inr, arith}
use Rattle.std.proofs.lemmas.Option.{same_Some}
use Rattle.ghs_graph.specs.declared.key.Key.{Key}
use Rattle.ghs_node.specs.Words.{is_branch}
use Rattle.ghs_node.specs.declared.mark.Mark.TheVariants.{Branch}
use Rattle.ghs_node.specs.declared.message.Message.{Message}
use Rattle.ghs_node.specs.declared.message.Message.TheVariants.{ChangeRoot}
use Rattle.peer_network.specs.Network.{Network, port_at, At, far, far_port, InNetwork}
use Rattle.peer_network.proofs.lemmas.Wired.{IsWired}
use Rattle.peer_network.specs.Updates.{put}
use Rattle.ghs_protocol.proofs.clauses.Scene.{Member, Scene, End, TreeEnd, tree_end, end, forest, acts, far_end}
use Rattle.ghs_protocol.proofs.clauses.Changes.{left_tree, seen_beyond, pointing}
use Rattle.ghs_protocol.proofs.clauses.Links.{Joins, Child, Ups}
use Rattle.ghs_protocol.proofs.clauses.TreeMessages.{TreeFits, Reported, Upward, Nothing_up, Report_up, Downward, Initiates, Old_report, To_here, To_there}
use Rattle.ghs_protocol.proofs.clauses.Fragments.{IsJoinedIn, Both_ways}
use Rattle.ghs_protocol.proofs.clauses.Whole.{Invariant, NamesOf}
use Rattle.ghs_protocol.proofs.clauses.Uniting.{SendsRoot}
use Rattle.peer_network.proofs.lemmas.Updates.{put_same, put_other, put_alike}
use Rattle.ghs_protocol.proofs.search.ReportGone.{debt_up}
use Rattle.ghs_protocol.proofs.search.FirstReport.{chain_top, mark_is}
use Rattle.ghs_protocol.proofs.rest.Halt.{owed_finds}
use Rattle.ghs_protocol.proofs.root.AtRoot.{AtRoot, at_root}
use Rattle.ghs_protocol.proofs.root.Ways.{Turns, RootAtNode, NeighboursLed}
use Rattle.ghs_protocol.proofs.root.OldLink.{search_turns, search_turns', call_append}
use Rattle.ghs_protocol.proofs.root.Sent.{reroutes}
use Rattle.ghs_protocol.proofs.rows.Link.{node_clauses, link_clauses}

-- the best link, of a child that has reported: e is the parent's end, at the root
pub record Below (e f : TreeEnd) : Type 0 where
  pub joins : Joins e f
  pub up : Ups f
  pub empty : e.tree ≡ []
  pub empty' : f.tree ≡ []
  pub top : e.level ≡ e.coming
  pub top' : f.level ≡ f.coming
  pub coming : f.coming ≡ e.coming
  pub in_branch : f.in_branch ≡ Some f.port
  pub best : f.best ≢ None
  pub unnamed : e.coming_name ≢ Some e.key
  pub unnamed' : f.coming_name ≢ Some f.key

abbrev pub passed : TreeEnd → TreeEnd
passed e = record e { up = Some e.port }

abbrev pub called_on : TreeEnd → TreeEnd
called_on f = record f { tree = f.tree ++ ChangeRoot ∷ [] }

module _ (e f : TreeEnd) (b : Below e f) where
  pub tree_passes : {N : ℕ → Key → Type 0} → TreeFits N (passed e) (called_on f)
  tree_passes = record {
    out_connect = λ o. absurd (o.there b.joins.there);
    silent = λ x y. absurd (x b.joins.here);
    core_ends = λ j n. absurd (b.unnamed n);
    upward = λ c. absurd (c.down b.up);
    downward = λ c. absurd (c.down b.up);
    core_queues = λ c. absurd (b.unnamed c.named);
    moved_root = λ c.
        To_there (record {
          queue = ap (λ t. t ++ ChangeRoot ∷ []) b.empty';
          queue_beyond = b.empty;
          level = b.top';
          level_beyond = b.top ∙ sym b.coming;
          in_branch = b.in_branch;
          best = b.best;
        });
  }

  pub tree_passes' : {N : ℕ → Key → Type 0} → TreeFits N (called_on f) (passed e)
  tree_passes' = record {
    out_connect = λ o. absurd (o.there b.joins.here);
    silent = λ x y. absurd (x b.joins.there);
    core_ends = λ j n. absurd (b.unnamed' n);
    upward = λ c. absurd (c.down refl);
    downward = λ c. absurd (c.down refl);
    core_queues = λ c. absurd (b.unnamed' c.named);
    moved_root = λ c.
        To_here (record {
          queue = ap (λ t. t ++ ChangeRoot ∷ []) b.empty';
          queue_beyond = b.empty;
          level = b.top';
          level_beyond = b.top ∙ sym b.coming;
          in_branch = b.in_branch;
          best = b.best;
        });
  }

-- a node's best is at a port other than its in_branch
module _ (g : Network) (wired : IsWired g) (u : ℕ) (u_is : InNetwork g u) (j : ℕ) (at : At g u j) (w : Scene) (holds : Invariant g w)
    (ms : List Message) (root : AtRoot g w u j ms)
    (b : ℕ) (k : Key) (best : (w.at u).head.best ≡ Some (b, k)) where
  open node_clauses g wired w holds u u_is use {fits}

  pub at_best : At g u b
  at_best = record { some = u_is.some; node = u_is.node; port = (fits.best_port b k best).0 }

  pub best_apart : b ≢ j
  best_apart e = (fits.best_port b k best).1 (root.in_branch ∙ ap Some (sym e))

  pub best_aside : (w.at u).up ≢ Some b
  best_aside e = best_apart (sym (same_Some j b (sym root.up ∙ e)))

  pub old_roots : RootAtNode g (forest w) u
  old_roots v p at' r same =
      ⊎_elim
      (λ h. (
        record {
          here = subst₂ (λ y z. is_branch ((w.at y).mark z) ≡ true) (sym h.0) (sym h.1) inside.here;
          there = subst₂ (λ y z. is_branch ((w.at (far g y z)).mark (far_port g y z)) ≡ true) (sym h.0) (sym h.1) inside.there;
        },
        inl h.0,
      ))
      (λ h. (
        record {
          here =
              subst₂ (λ y z. is_branch ((w.at y).mark z) ≡ true) (ap₂ (far g) (sym h.0) (sym h.1) ∙ wired.back v p at')
              (ap₂ (far_port g) (sym h.0) (sym h.1) ∙ wired.back_port v p at') inside.there;
          there = subst₂ (λ y z. is_branch ((w.at y).mark z) ≡ true) (sym h.0) (sym h.1) inside.here;
        },
        inr h.0,
      ))
      (holds.trees.one_root v p u j at' at r (Both_ways inside root.up root.up_beyond) same)
    where
      inside : IsJoinedIn g (forest w) u j
      inside = record { here = ap is_branch root.joins.here; there = ap is_branch root.joins.there }

  pub leads_to : NeighboursLed g (forest w) u
  leads_to p at' l =
      ⊎_elim (λ e.
      let same : j ≡ p = same_Some j p (sym root.up ∙ e) in subst (λ y. (w.at (far g u y)).up ≡ Some (far_port g u y)) same root.up_beyond)
      (λ e. e) (holds.trees.joined_lead u p at' l)

  open link_clauses g wired w holds u b at_best use {link as best_link, link' as best_link'}

  module _ (mark : (w.at u).mark b ≡ Branch) where
    e : TreeEnd
    e = tree_end (end g w u b)

    f : TreeEnd
    f = tree_end (far_end g w u b)

    joins : Joins (tree_end (end g w u b)) (tree_end (far_end g w u b))
    joins =
        ⊎_elim (λ h. record { here = mark; there = h })
        (λ h. absurd (best_aside (best_link.tree.out_connect (record { here = mark; there = h })).up))
        (mark_is ((w.at (far g u b)).mark (far_port g u b)))

    inside : IsJoinedIn g (forest w) u b
    inside = record { here = ap is_branch joins.here; there = ap is_branch joins.there }

    child : Child (tree_end (far_end g w u b)) (tree_end (end g w u b))
    child = record { joins = record { here = joins.there; there = joins.here }; up = leads_to b at_best inside; down = best_aside }

    ghosts : ((w.at (far g u b)).coming ≡ (w.at u).coming) × ((w.at (far g u b)).coming_name ≡ (w.at u).coming_name)
    ghosts = holds.trees.by_fragment (far g u b) u (sym (holds.trees.joined_within u b at_best inside))

    reported : Reported (tree_end (far_end g w u b)) (Some k)
    reported = best_link.search.find_reported k best root.top joins

    not_core : (w.at u).head.in_branch ≢ Some b
    not_core = (fits.best_port b k best).1

    no_report' : Upward (tree_end (far_end g w u b)) (tree_end (end g w u b)) → (w.seen u b).tree ≡ []
    no_report' (Nothing_up q) = q
    no_report' (Report_up r q h) =
        absurd (let z = owed_finds g wired u u_is b at_best w holds best_aside (rw q refl) in let y = root.quiet.found u u_is refl in cc (z, y))

    level_up : (w.at u).head.level ≤ (w.at (far g u b)).head.level
    level_up = let a = root.top in let c = reported.level in let d = ghosts.0 in omega (arith, a, c, d)

    no_initiate :
        Downward (NamesOf g w (w.at (far g u b)).fragment) (tree_end (far_end g w u b)) (tree_end (end g w u b)) →
        (seen_beyond g w u b).tree ≡ []
    no_initiate (Initiates c) =
        chain_top (NamesOf g w (w.at (far g u b)).fragment) (w.at (far g u b)).coming (w.at (far g u b)).coming_name (w.at u).head.level
        (w.at (far g u b)).head.level _ level_up c
    no_initiate (Old_report r xs q h c) =
        absurd
        (not_core (h.there
        (chain_top (NamesOf g w (w.at (far g u b)).fragment) (w.at (far g u b)).coming (w.at (far g u b)).coming_name (w.at u).head.level
        (w.at (far g u b)).head.level xs level_up c)))

    pub best_below : Below (tree_end (end g w u b)) (tree_end (far_end g w u b))
    best_below = record {
      joins = joins;
      up = child.up;
      empty = no_report' (best_link'.tree.upward child);
      empty' = no_initiate (best_link'.tree.downward child);
      top = root.top;
      top' = reported.level;
      coming = ghosts.0;
      in_branch = reported.in_branch;
      best = λ z. let y = reported.key in cc (y, z);
      unnamed = λ n. not_core ((best_link.tree.core_ends joins n).at_top root.top);
      unnamed' = λ n. not_core ((best_link.tree.core_ends joins (sym ghosts.1 ∙ n)).at_top root.top);
    }

    marks_kept : (v p : ℕ) → is_branch ((put w.at u (pointing (w.at u) b) v).mark p) ≡ is_branch ((w.at v).mark p)
    marks_kept v p = put_alike (λ (m : Member). is_branch (m.mark p)) w.at u (pointing (w.at u) b) refl v

    turns : Turns g (forest w) u b (λ v p. is_branch ((put w.at u (pointing (w.at u) b) v).mark p))
    turns = record {
      at = at_best;
      keeps = λ v p at' l. record { here = marks_kept v p ∙ l.here; there = marks_kept _ _ ∙ l.there };
      only = λ v p at' l. record { here = sym (marks_kept v p) ∙ l.here; there = sym (marks_kept _ _) ∙ l.there };
      out_keeps = λ v p at' x y. (marks_kept v p ∙ x, marks_kept _ _ ∙ y);
      out_only = λ v p at' x y. inr (sym (marks_kept v p) ∙ x, sym (marks_kept _ _) ∙ y);
      led = leads_to;
      old = old_roots;
      root =
          Both_ways (record { here = marks_kept u b ∙ inside.here; there = marks_kept _ _ ∙ inside.there }) (put_same (forest w).up u (Some b))
          (put_other (forest w).up u (far g u b) (Some b) (wired.apart u b at_best) ∙ child.up);
    }

    abbrev sender : End
    sender = record { port = b; key = (port_at g u b).key; mark = (w.at u).mark b; is = pointing (w.at u) b; seen = w.seen u b }

    abbrev receiver : End
    receiver = record (far_end g w u b) { seen = record (seen_beyond g w u b) { tree = (seen_beyond g w u b).tree ++ ChangeRoot ∷ [] } }

    pub passes : Invariant g (acts g u (pointing (w.at u) b) (left_tree w u j ms) ((b, ChangeRoot) ∷ []) w)
    passes =
        reroutes g wired u u_is j at w holds ms root b at_best best_apart (w.at u).mark mark (λ i ne. refl) ChangeRoot
        (λ q n. call_append ChangeRoot refl q.tree ∙ n)
        turns
        (record {
          tree = tree_passes (tree_end (end g w u b)) (tree_end (far_end g w u b)) best_below;
          search = search_turns (tree_end (end g w u b)) (tree_end (far_end g w u b)) (Some b) _ _ best_link.search;
          tests = best_link.tests;
        })
        (record {
          tree = tree_passes' (tree_end (end g w u b)) (tree_end (far_end g w u b)) best_below;
          search = search_turns' (tree_end (end g w u b)) (tree_end (far_end g w u b)) (Some b) _ _ best_link'.search;
          tests = best_link'.tests;
        })
        (debt_up receiver sender child.up ∙ sym (debt_up (far_end g w u b) (end g w u b) child.up))

-- a step: the root moves on over a Branch link
pub passes_root :
    (g : Network) (wired : IsWired g) (u : ℕ) (u_is : InNetwork g u) (w : Scene) (holds : Invariant g w) (j : ℕ) (at : At g u j)
    (ms : List Message) (b : ℕ) (k : Key) →
    SendsRoot w u j ms → (w.at u).head.best ≡ Some (b, k) → (w.at u).mark b ≡ Branch →
    Invariant g (acts g u (pointing (w.at u) b) (left_tree w u j ms) ((b, ChangeRoot) ∷ []) w)
passes_root g wired u u_is w holds j at ms b k calls best mark =
    passes g wired u u_is j at w holds ms (at_root g wired u u_is j at w holds ms calls) b k best mark
