-- Where the root is sent on: what stands at the root link, its fragment being at rest.
use Rattle.std.proofs.Common.{◌≡◌, ℕ, true, Option, Some, None, List, [], ◌∷◌, ◌++◌, sym, ◌∙◌, ap, ap₂, subst, subst₂, ◌⊎◌, arith}
use Rattle.std.proofs.lemmas.Bool.Decides.{nat_tests}
use Rattle.ghs_graph.specs.declared.key.Key.{Key}
use Rattle.ghs_graph.specs.Key.{key_lt}
use Rattle.ghs_node.specs.Words.{below, best_key}
use Rattle.ghs_node.specs.declared.message.Phase.TheVariants.{Found}
use Rattle.ghs_node.specs.declared.message.Message.{Message}
use Rattle.ghs_node.specs.declared.message.Message.TheVariants.{Report, ChangeRoot}
use Rattle.peer_network.specs.Network.{Network, port_at, At, far, far_port, InNetwork}
use Rattle.peer_network.proofs.lemmas.Wired.{IsWired}
use Rattle.ghs_protocol.proofs.clauses.Scene.{Scene, TreeEnd, tree_end, end, far_end}
use Rattle.ghs_protocol.proofs.clauses.Links.{Joins, Ups}
use Rattle.ghs_protocol.proofs.clauses.TreeMessages.{TreeFits, Chain, Upward, Nothing_up, Report_up, Downward, Initiates, Old_report, CoreFits, CoreQueue, Plain, With_report, Moved, Moving, MovedFits, To_here, To_there, Stage, Asking, Called, Begun, asked, called}
use Rattle.ghs_protocol.proofs.clauses.Rest.{Quiet}
use Rattle.ghs_protocol.proofs.clauses.Whole.{Invariant, NamesOf}
use Rattle.ghs_protocol.proofs.clauses.Uniting.{SendsRoot, By_report, By_root}
use Rattle.ghs_protocol.proofs.acts.OneLink.{at_near}
use Rattle.ghs_protocol.proofs.search.FirstReport.{joined_by, Joint, joint, Down_here, Down_there, On_core, On_moved}
use Rattle.ghs_protocol.proofs.rest.Halt.{Back, Old, Half, heard_at_rest}
use Rattle.ghs_protocol.proofs.rest.AtRest.{core_rests}
use Rattle.ghs_protocol.proofs.acts.Situations.{begun_at_top}
use Rattle.ghs_protocol.proofs.rows.Link.{link_clauses, joined_clauses}

lt_asym : (k l : Key) → key_lt k l ≡ true → key_lt l k ≡ true → ⊥
lt_asym k l a b = grind (arith, nat_tests)

below_asym : (a b : Option Key) → below a b ≡ true → below b a ≡ true → ⊥
below_asym (Some k) (Some l) a b = lt_asym k l a b
below_asym (Some k) None a b = cc
below_asym None b a c = cc

no_stage : (l v : ℕ) (n : Key) (a b : Stage) → a ≡ Begun → b ≡ Begun → asked l a ++ called v n b ≡ []
no_stage l v n a b x y = ap₂ (λ p q. asked l p ++ called v n q) x y

-- a ChangeRoot waits first
no_root_call : (N : Key → Type 0) (coming : ℕ) (coming_name : Option Key) (t l : ℕ) (ms xs : List Message) →
    xs ≡ ChangeRoot ∷ ms →
    Chain N coming coming_name t l xs →
    ⊥
no_root_call N coming coming_name t l ms xs e c = subst (Chain N coming coming_name t l) e c

no_core_root : (l v : ℕ) (n : Key) (a b : Stage) (ms : List Message) → asked l b ++ called v n a ≡ ChangeRoot ∷ ms → ⊥
no_core_root l v n a Asking ms e = cc
no_core_root l v n Asking Called ms e = cc
no_core_root l v n Called Called ms e = cc
no_core_root l v n Begun Called ms e = cc
no_core_root l v n Asking Begun ms e = cc
no_core_root l v n Called Begun ms e = cc
no_core_root l v n Begun Begun ms e = cc

no_half_root : (v : ℕ) (n : Key) (a : Stage) (k : Option Key) (ms : List Message) → called v n a ++ Report k ∷ [] ≡ ChangeRoot ∷ ms → ⊥
no_half_root v n Asking k ms e = cc
no_half_root v n Called k ms e = cc
no_half_root v n Begun k ms e = cc

-- the root link has moved, and the ChangeRoot is its only message
pub record Sent (e f : TreeEnd) (ms : List Message) : Type 0 where
  pub moved : Moved e f
  pub fits : Moving e f
  pub rest : ms ≡ []

module _ {N : ℕ → Key → Type 0} (e f : TreeEnd) (he : TreeFits N e f) (hf : TreeFits N f e) (ups : Joins e f → Ups e ⊎ Ups f)
    (ms : List Message) (waits : e.tree ≡ ChangeRoot ∷ ms) where
  joined_root : Joins e f
  joined_root = joined_by e f he hf (λ z. cc) (λ l' z. cc)

  pub root_sent : Sent e f ms
  root_sent = go (joint e f joined_root (ups joined_root))
    where
      up : Upward f e → Sent e f ms
      up (Nothing_up q) = absurd (let z = q in cc)
      up (Report_up r q h) = absurd (let z = q in cc)

      down : Downward (N e.fragment) e f → Sent e f ms
      down (Initiates c) = absurd (no_root_call _ _ _ _ _ ms e.tree waits c)
      down (Old_report r xs q h c) = absurd (let z = q in cc)

      core : (z : CoreFits e f) → CoreQueue e f z.here z.there → Sent e f ms
      core z (Plain q) = absurd (no_core_root _ _ _ z.here z.there ms (sym q ∙ waits))
      core z (With_report r q s p b) = absurd (no_half_root _ _ z.here r ms (sym q ∙ waits))

      moved : Moved e f → MovedFits e f → Sent e f ms
      moved c (To_here m) = record { moved = c; fits = m; rest = (let z : ChangeRoot ∷ ms ≡ ChangeRoot ∷ [] = sym waits ∙ m.queue in cc) }
      moved c (To_there m) = absurd (let z = m.queue_beyond in cc)

      go : Joint e f → Sent e f ms
      go (Down_here c) = down (he.downward c)
      go (Down_there c) = up (hf.upward c)
      go (On_core c) = let z = he.core_queues c in core z z.queue
      go (On_moved c) = moved c (he.moved_root c)

-- what the root's other end may still have before it: a Report not better than its own best
pub data Left (f : TreeEnd) : Type 0 where
  Nothing_left : f.tree ≡ [] → Left f
  Report_left : (k : Option Key) → f.tree ≡ Report k ∷ [] → f.in_branch ≡ Some f.port → below k (best_key f.best) ≡ true → Left f

-- u, at one end of the root link j, is about to send the root on
pub record AtRoot (g : Network) (w : Scene) (u j : ℕ) (ms : List Message) : Type 0 where
  pub joins : Joins (tree_end (end g w u j)) (tree_end (far_end g w u j))
  pub up : (w.at u).up ≡ Some j
  pub up_beyond : (w.at (far g u j)).up ≡ Some (far_port g u j)
  pub in_branch : (w.at u).head.in_branch ≡ Some j
  pub top : (w.at u).head.level ≡ (w.at u).coming
  pub top' : (w.at (far g u j)).head.level ≡ (w.at u).coming
  pub rest : ms ≡ []
  pub left : Left (tree_end (far_end g w u j))
  pub quiet : Quiet g w (w.at u).fragment

module _ (g : Network) (wired : IsWired g) (u : ℕ) (u_is : InNetwork g u) (j : ℕ) (at : At g u j) (w : Scene) (holds : Invariant g w)
    (ms : List Message) where
  open link_clauses g wired w holds u j at use {link, link', ways}

  by_report : (k : Option Key) →
      (waits : (w.seen u j).tree ≡ Report k ∷ ms) → (w.at u).head.in_branch ≡ Some j →
      (rests : (w.at u).head.phase ≡ Found) →
      below (best_key (w.at u).head.best) k ≡ true → AtRoot g w u j ms
  by_report k waits way rests better = go (heard_at_rest g wired u u_is j at w holds k ms waits rests)
    where
      go : Back (NamesOf g w (w.at u).fragment) (tree_end (end g w u j)) (tree_end (far_end g w u j)) k ms → AtRoot g w u j ms
      go (Old c h x) = absurd (below_asym (best_key (w.at u).head.best) k better h.worse)
      go (Half c z a b n p q) = record {
        joins = c.both.joins;
        up = c.both.up;
        up_beyond = c.both.up_beyond;
        in_branch = way;
        top = begun_at_top (tree_end (end g w u j)) z.here a z.at_here;
        top' = top' ∙ ghosts.0;
        rest = n;
        left = remains z.queue_beyond;
        quiet =
            core_rests g wired w holds u j at joined c.both.up c.both.up_beyond
            (begun_at_top (tree_end (end g w u j)) z.here a z.at_here) top' rests p;
      }
        where
          open joined_clauses g w holds u j at c.both.joins use {joined, ghosts}

          top' : (w.at (far g u j)).head.level ≡ (w.at (far g u j)).coming
          top' = begun_at_top (tree_end (far_end g w u j)) z.there b z.at_there

          back' : (w.at (far g u j)).head.in_branch ≡ Some (far_port g u j)
          back' = (link'.tree.core_ends (record { here = c.both.joins.there; there = c.both.joins.here }) (ghosts.1 ∙ c.named)).at_top top'

          remains : CoreQueue (tree_end (far_end g w u j)) (tree_end (end g w u j)) z.there z.here → Left (tree_end (far_end g w u j))
          remains (Plain y) = Nothing_left (y ∙ no_stage (w.at u).head.level (w.at (far g u j)).coming (port_at g u j).key z.here z.there a b)
          remains (With_report r y s t h) =
              Report_left r
              (y ∙ ap (λ s. called (w.at (far g u j)).coming (port_at g u j).key s ++ Report r ∷ []) b) back'
              (subst₂ (λ x y. below x y ≡ true) h (sym q) better)

  by_root : (w.seen u j).tree ≡ ChangeRoot ∷ ms → AtRoot g w u j ms
  by_root waits =
      let s = root_sent (tree_end (end g w u j)) (tree_end (far_end g w u j)) link.tree link'.tree ways ms waits in
      record {
        joins = s.moved.both.joins;
        up = s.moved.both.up;
        up_beyond = s.moved.both.up_beyond;
        in_branch = s.fits.in_branch;
        top = s.fits.level;
        top' = s.fits.level_beyond;
        rest = s.rest;
        left = Nothing_left s.fits.queue_beyond;
        quiet = at_near g wired w (λ e f. Moved (tree_end e) (tree_end f) → Quiet g w e.is.fragment) holds.resting.moved u j at s.moved;
      }

  pub at_root : SendsRoot w u j ms → AtRoot g w u j ms
  at_root (By_report k q b p l) = by_report k q b p l
  at_root (By_root q) = by_root q
