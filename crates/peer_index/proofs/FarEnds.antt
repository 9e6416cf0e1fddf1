-- Ends laid one after another, and far places read.
use Rattle.std.proofs.Common.{◌≡◌, ℕ, suc, ◌+◌, ◌-◌, ◌<◌, ◌≤◌, List, [], ◌∷◌, ◌++◌, length, map, get_or, sym, ◌∙◌, ap, ap₂, subst, ⊎_elim, arith, length-append, append_assoc}
use Rattle.std.proofs.lemmas.Bool.{cases_lt}
use Rattle.std.proofs.lemmas.List.{map-append, length-map, get_or_push, get_or_append_left, get_or-map}
use Rattle.ghs_graph.specs.Graph.{Shape, IsGraph}
use Rattle.peer_network.specs.declared.event.Event.{Event}
use Rattle.peer_network.specs.declared.event.Event.TheVariants.{Wake, Take}
use Rattle.peer_network.specs.Network.{Network, At, network_of}
use Rattle.peer_network.proofs.lemmas.Graphs.{graph_wired}
use Rattle.peer_index.specs.declared.ends.Ends.{Ends}
use Rattle.peer_index.specs.Places.{events_at, events_to, all_events, far_place, far_take, place, HasPlace}
use Rattle.peer_index.specs.Index.{IndexState, AreBases, AreEnds, AreFars, AreOwnBases, AreOwners, IsFor, IsOwner, fars_in, own_bases_in, owners_in}
use Rattle.peer_index.proofs.lemmas.Lists.{map_get}
use Rattle.peer_index.proofs.lemmas.Places.{length_at, place_within, placed}
use Rattle.peer_index.proofs.Finding.{span}
use Rattle.peer_index.proofs.Laying.{few_events}

-- what stands at a place is its owner's
pub owner_told : (bases : List ℕ) (ends : List Ends) (at : ℕ) (d : Ends) → AreOwners bases (owners_in ends) → at < length ends →
    IsOwner bases at (get_or ends at d).owner
owner_told bases ends at d are lt =
    subst (IsOwner bases at) (get_or-map (λ (x : Ends). x.owner) ends at d 0 lt)
    (are.owner at (omega (arith, lt, length-map ends (λ (x : Ends). x.owner))))

-- where the events of its owner begin stands there too
pub base_told : (bases : List ℕ) (ends : List Ends) (at : ℕ) (d : Ends) → AreOwnBases bases (owners_in ends) (own_bases_in ends) →
    at < length ends → (get_or ends at d).base ≡ get_or bases (get_or ends at d).owner 0
base_told bases ends at d are lt =
    sym (get_or-map (λ (x : Ends). x.base) ends at d 0 lt)
    ∙ ap (λ (l : List ℕ). get_or l at 0) are
    ∙ get_or-map (λ (v : ℕ). get_or bases v 0) (owners_in ends) at 0 0 (omega (arith, lt, length-map ends (λ (x : Ends). x.owner)))
    ∙ ap (λ (v : ℕ). get_or bases v 0) (get_or-map (λ (x : Ends). x.owner) ends at d 0 lt)

-- a far place is a place, and few are
pub far_has : (g : Shape) (v p : ℕ) → IsGraph g → At (network_of g) v p → HasPlace (network_of g) (far_take (network_of g) v p)
far_has g v p graph at = (graph_wired g graph).there v p at

pub place_few : (g : Shape) (e : Event) → IsGraph g → HasPlace (network_of g) e → place (network_of g) e < 4294967296
place_few g e graph has = let few = few_events g graph in let within = place_within (network_of g) e has in omega arith

module _ (g : Network) where
  many_ends : (es : List Event) (ends : List Ends) → AreFars g es (fars_in ends) → length ends ≡ length es
  many_ends es ends fars = sym (length-map ends (λ (x : Ends). x.far)) ∙ ap length fars ∙ length-map es (far_place g)

  -- the far place of an event
  pub far_told : (x : IndexState) (e : Event) → IsFor g x → HasPlace g e → get_or x.fars (place g e) 0 ≡ far_place g e
  far_told x e is has =
      ap (λ (fars : List ℕ). get_or fars (place g e) 0) is.fars ∙ map_get (far_place g) 0 (all_events g) (place g e) e (placed g e has)

  -- an index has as many ends as events
  pub ends_of_all : (x : IndexState) (ends : List Ends) → IsFor g x → x.fars ≡ fars_in ends → length ends ≡ length (all_events g)
  ends_of_all x ends is same = many_ends (all_events g) ends (sym same ∙ is.fars)

  -- what is read at the place of a Take
  pub far_read : (x : IndexState) (ends : List Ends) (v p at f : ℕ) → IsFor g x → x.fars ≡ fars_in ends → At g v p →
      at ≡ place g (Take v p) → f ≡ get_or (fars_in ends) at 0 → f ≡ place g (far_take g v p)
  far_read x ends v p at f is same has here read =
      read ∙ ap (λ (fars : List ℕ). get_or fars at 0) (sym same) ∙ ap (λ (i : ℕ). get_or x.fars i 0) here ∙ far_told x (Take v p) is has

  module _ (bases : List ℕ) where
    one_more : (es : List Event) (e : Event) (ends : List Ends) (x : Ends) → AreEnds g bases es ends → IsOwner bases (length es) x.owner →
        x.far ≡ far_place g e → x.base ≡ get_or bases x.owner 0 → AreEnds g bases (es ++ e ∷ []) (ends ++ x ∷ [])
    one_more es e ends x before own is begins = record { owner = at; fars = fars; own = own_bases }
      where
        many : length (owners_in ends) ≡ length es
        many = length-map ends (λ (y : Ends). y.owner) ∙ many_ends es ends before.fars

        owners : owners_in (ends ++ x ∷ []) ≡ owners_in ends ++ x.owner ∷ []
        owners = map-append (λ (y : Ends). y.owner) ends (x ∷ [])

        fars : AreFars g (es ++ e ∷ []) (fars_in (ends ++ x ∷ []))
        fars = map-append (λ (y : Ends). y.far) ends (x ∷ []) ∙ ap₂ (λ (ns ms : List ℕ). ns ++ ms) before.fars (ap (λ n. n ∷ []) is)
            ∙ sym (map-append (far_place g) es (e ∷ []))

        own_bases : AreOwnBases bases (owners_in (ends ++ x ∷ [])) (own_bases_in (ends ++ x ∷ []))
        own_bases = map-append (λ (y : Ends). y.base) ends (x ∷ [])
            ∙ ap₂ (λ (ns ms : List ℕ). ns ++ ms) before.own (ap (λ n. n ∷ []) begins)
            ∙ sym (map-append (λ (v : ℕ). get_or bases v 0) (owners_in ends) (x.owner ∷ []))
            ∙ ap (map (λ (v : ℕ). get_or bases v 0)) (sym owners)

        at : (i : ℕ) → i < length (ends ++ x ∷ []) → IsOwner bases i (get_or (owners_in (ends ++ x ∷ [])) i 0)
        at i lt = ⊎_elim
            (λ (below : i < length ends).
            let within : i < length (owners_in ends) = omega (arith, below, many, many_ends es ends before.fars) in
            subst (IsOwner bases i)
            (sym (ap (λ (l : List ℕ). get_or l i 0) owners ∙ get_or_append_left (owners_in ends) (x.owner ∷ []) 0 i within))
            (before.owner i below))
            (λ (last : length ends ≤ i).
            let l = length-append ends (x ∷ []) in
            let here : i ≡ length es = (let m = many_ends es ends before.fars in omega arith) in
            rw here (subst (IsOwner bases (length es))
            (sym (ap (λ (l : List ℕ). get_or l (length es) 0) owners ∙ get_or_push (owners_in ends) x.owner 0 (length es) many)) own))
            (cases_lt i (length ends))

    -- the events of one node
    module _ (v : ℕ) (are : AreBases g g.count bases) (low : 1 ≤ v) (high : v ≤ g.count) where
      own : (j : ℕ) → j ≤ length (g.ports v) → IsOwner bases (length (events_to g (v - 1)) + j) v
      own j le =
          let s = span g bases v are low high in
          let from = s.from in
          let to = s.to in
          let many = s.many in
          let count = are.count in
          record { node = low; last = omega arith; from = omega arith; to = omega arith }

      pub wake_laid : (ends new : List Ends) (b : ℕ) → AreEnds g bases (events_to g (v - 1)) ends → b ≡ get_or bases v 0 →
          new ≡ ends ++ (record { owner = v; far = b; base = b }) ∷ [] → AreEnds g bases (events_to g (v - 1) ++ events_at v 0) new
      wake_laid ends new b before is same =
          let next : length (events_to g (v - 1)) + 0 ≡ length (events_to g (v - 1)) = omega arith in
          rw same (one_more (events_to g (v - 1)) (Wake v) ends (record { owner = v; far = b; base = b }) before
          (subst (λ (i : ℕ). IsOwner bases i v) next (own 0 (omega arith))) (is ∙ (span g bases v are low high).from) is)

      pub take_laid : (j : ℕ) (ends new : List Ends) (f b : ℕ) → j < length (g.ports v) →
          AreEnds g bases (events_to g (v - 1) ++ events_at v j) ends →
          f ≡ place g (far_take g v j) → b ≡ get_or bases v 0 → new ≡ ends ++ (record { owner = v; far = f; base = b }) ∷ [] →
          AreEnds g bases (events_to g (v - 1) ++ events_at v (j + 1)) new
      take_laid j ends new f b lt before is begins same =
          let up : j + 1 ≡ suc j = omega arith in
          let l = length-append (events_to g (v - 1)) (events_at v j) in
          let m = length_at v j in
          let next : length (events_to g (v - 1)) + suc j ≡ length (events_to g (v - 1) ++ events_at v j) = omega arith in
          rw (same, up) (subst (λ (es : List Event). AreEnds g bases es (ends ++ (record { owner = v; far = f; base = b }) ∷ []))
          (append_assoc (events_to g (v - 1)) (events_at v j) (Take v j ∷ []))
          (one_more (events_to g (v - 1) ++ events_at v j) (Take v j) ends (record { owner = v; far = f; base = b }) before
          (subst (λ (i : ℕ). IsOwner bases i v) next (own (suc j) lt)) is begins))
