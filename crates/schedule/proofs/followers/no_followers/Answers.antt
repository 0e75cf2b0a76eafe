use Rattle.std.proofs.Common.{◌≡◌, List, [], ◌∷◌, ◌++◌, map, length, take, replicate, vec_items, Vec, refl, ap, ◌∙◌, rules, tests, arith}
use Rattle.std.proofs.lemmas.Grind.{common_steps}
use Rattle.std.specs.List.{FoldsTo}
use Rattle.schedule.proofs.followers.no_followers.Goals as goal

-- where each call answers an empty list
all_empty : {F X Y : Type 0} (R : F → Vec X Y → F → Type 0) → ((f : F) (v : Vec X Y) (g : F) → R f v g → vec_items v ≡ []) → (f : F) (vs : List (Vec X Y)) (g : F) → FoldsTo R f vs g → map vec_items vs ≡ replicate (length vs) []
all_empty R each f [] g h = refl
all_empty R each f (v ∷ vs) g h = ap (λ x. x ∷ map vec_items vs) (each f v h.0 h.1) ∙ ap (λ l. [] ∷ l) (all_empty R each h.0 vs g h.2)

pub returns : goal.returns
returns c =
    let made = c.in_ok-resize_with.ensures.items in
    let new = c.resize_with.new.self in
    let n = c.args.count in
    let none : take n (vec_items c.new-followers.result) ≡ [] = ap (take n) c.new-followers.ensures.items ∙ grind (arith, common_steps) in
    let items : vec_items new ≡ made.0 = made.2 ∙ ap (λ l. l ++ made.0) none in
    ap (map vec_items) items
    ∙ all_empty _ (λ f v g k. search (rules, tests)) _ made.0 made.1 made.3
    ∙ ap (λ k. replicate k []) (omega (arith, ap length items, new.ok.0, c.in_ok-resize_with.ensures.len))
