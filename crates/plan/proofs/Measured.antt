-- Segments of a graph and the lengths of their timelines, by their places.
use Rattle.std.proofs.Common.{◌≡◌, ℕ, ◌<◌, List, map, length, get_or, vec_items, vec_len, sym, ap, ◌∙◌, arith}
use Rattle.std.proofs.lemmas.List.{length-map, get_or-map}
use Rattle.graph.specs.Meaning.{segment_of}
use Rattle.graph.specs.Whole.{graph_of}
use Rattle.graph.specs.declared.parts.Segment.{Segment}
use Rattle.graph.specs.declared.structure.Graph.{Graph}
use Rattle.model.specs.Canonical.{length_of}
use Rattle.model.specs.Graph as model
use Rattle.model.specs.Places.{no_segment, segment, count, exits_of}
use Rattle.schedule.specs.declared.parts.Timeline.{Timeline}
use Rattle.plan.specs.Tables.{lengths_of}

module _ (g : Graph) where
  pub length-segments : count (graph_of g) ≡ vec_len g.segments
  length-segments = length-map (vec_items g.segments) segment_of ∙ sym g.segments.ok.0

  pub read_exits : (s : ℕ) (x : Segment) → s < vec_len g.segments → x ≡ get_or (vec_items g.segments) s x → exits_of (graph_of g) s ≡ vec_items x.exits
  read_exits s x inside is = ap (λ (y : model.Segment). y.exits) (get_or-map segment_of (vec_items g.segments) s x no_segment (omega (arith, g.segments.ok.0)) ∙ ap segment_of (sym is))

  module _ (ts : List Timeline) (measured : lengths_of ts ≡ map (length_of g.cores) (graph_of g).segments) where
    pub length-timelines : length ts ≡ vec_len g.segments
    length-timelines =
        sym (length-map ts (λ (t : Timeline). t.length)) ∙ ap length measured ∙ length-map (graph_of g).segments (length_of g.cores) ∙ length-segments

    pub read_length : (s : ℕ) (x : Timeline) → s < vec_len g.segments → (get_or ts s x).length ≡ length_of g.cores (segment (graph_of g) s)
    read_length s x inside =
        sym (get_or-map (λ (t : Timeline). t.length) ts s x 0 (omega (arith, length-timelines)))
        ∙ ap (λ l. get_or l s 0) measured
        ∙ get_or-map (length_of g.cores) (graph_of g).segments s no_segment 0 (omega (arith, length-segments))
