use Rattle.std.proofs.Common.{◌≡◌, ℕ, ◌-◌, List, [], ◌∷◌, ◌++◌, map, length, refl, ap, ◌∙◌, arith, rules}
use Rattle.std.proofs.lemmas.Fn.{fold_over, fronts, slice_gives}
use Rattle.std.proofs.lemmas.List.{map_push}
use Rattle.model.proofs.Along.{total_push}
use Rattle.model.specs.Graph.{predecessors_of}
use Rattle.graph.specs.Meaning.{task_of}
use Rattle.graph.specs.declared.parts.Task.{Task}
use Rattle.reader.proofs.tasks.left_after.Goals as goal

-- one task more
one_more : (left : ℕ) (ts : List Task) (t : Task) → left - predecessors_of (map task_of ts) - t.predecessors.len ≡ left - predecessors_of (map task_of (ts ++ (t ∷ [])))
one_more left ts t =
    let total = ap predecessors_of (map_push task_of ts t) ∙ total_push (λ x. length x.predecessors) predecessors_of refl (λ _ _. refl) (map task_of ts) (task_of t) in
    omega (arith, total, t.predecessors.ok.0)

pub returns : goal.returns
returns c =
    let left_after : List Task → ℕ → Type 0 = λ ts a. a ≡ c.args.left - predecessors_of (map task_of ts) in
    let all = fold_over fronts (λ y. y.now) _ left_after _
    (λ ys a x b f' j k. let turn : b ≡ a - x.now.predecessors.len = search rules in (turn ∙ (ap (λ n. n - x.now.predecessors.len) j ∙ one_more c.args.left ys x.now), search rules))
    c.iter.result c.iter.result.rest.now c.args.left c.fold.result (slice_gives c.iter.result) (omega arith) c.fold.ensures.ran in
    all ∙ ap (λ ts. c.args.left - predecessors_of (map task_of ts)) c.iter.ensures.rest
