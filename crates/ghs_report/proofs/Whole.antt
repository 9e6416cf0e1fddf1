-- All links taken: the fragments are the components.
use Rattle.std.proofs.Common.{◌≡◌, ℕ, inl, inr, Option, None, List, length, get_or, sym, ◌∙◌, ap, subst}
use Rattle.std.specs.List.{Contains}
use Rattle.std.proofs.lemmas.List.{get_or_default}
use Rattle.ghs_graph.specs.declared.key.Key.{Key}
use Rattle.ghs_graph.specs.Key.{no_key}
use Rattle.ghs_graph.specs.Graph.{Shape}
use Rattle.ghs_protocol.specs.Cores.{MergesTo}
use Rattle.ghs_protocol.specs.Merging.{Between}
use Rattle.ghs_report.specs.Fragments.{AreMerged, IsLeader}

pub merges_to : (g : Shape) (ps ls : List ℕ) (cs : List (Option Key)) (v r l : ℕ) (c : Option Key) → AreMerged g.keys (length g.keys) ps ls cs →
    IsLeader ps v r → l ≡ get_or ls r 0 → c ≡ get_or cs r None → MergesTo g v l c
merges_to g ps ls cs v r l c s lead el ec = record {
  links = s.links;
  to = s.to;
  connects = s.connects;
  way = s.way;
  whole = whole;
  level = sym ((s.even r v same).0) ∙ sym (s.level r lead.inside lead.itself) ∙ sym el;
  core = sym ((s.even r v same).1) ∙ sym (s.core r lead.inside lead.itself) ∙ sym ec;
}
  where
    same : s.to.fragment r ≡ s.to.fragment v
    same = lead.same s.to.fragment s.one

    one : (j : Key) → Contains g.keys j → s.to.fragment j.a ≡ s.to.fragment j.b
    one j h =
        subst (λ (x : Key). s.to.fragment x.a ≡ s.to.fragment x.b) (sym (get_or_default g.keys h.0 j no_key h.1) ∙ h.2) (s.within h.0 h.1)

    across : (j : Key) (x y : ℕ) → Contains g.keys j → Between j x y → s.to.fragment x ≡ s.to.fragment y
    across j x y h (inl z) = ap s.to.fragment (sym z.0) ∙ one j h ∙ ap s.to.fragment z.1
    across j x y h (inr z) = ap s.to.fragment (sym z.1) ∙ sym (one j h) ∙ ap s.to.fragment z.0

    whole : (j : Key) (x y : ℕ) → Contains g.keys j → Between j x y → s.to.fragment x ≡ s.to.fragment v → s.to.fragment y ≡ s.to.fragment v
    whole j x y h b e = sym (across j x y h b) ∙ e
