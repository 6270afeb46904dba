-- The first item that passes, item by item.
use Rattle.std.specs.Prelude.{◌≡◌, Bool, true, false, cond, List, [], ◌∷◌}
use Rattle.std.specs.declared.option.Option.{Option}
use Rattle.std.specs.declared.option.Option.TheVariants.{Some, None}
use Rattle.std.specs.List.{find}
use Rattle.std.proofs.Common.{sym, ap, ◌∙◌}

pub find_here : {X : Type 0} (test : X → Bool) (s t : List X) (x : X) (all : Option X) → s ≡ x ∷ t → test x ≡ true → find test s ≡ all → Some x ≡ all
find_here {X} test s t x all is passes left = sym (ap (λ (b : Bool). cond {A = Option X} b (Some x) (find test t)) passes) ∙ (sym (ap (find test) is) ∙ left)

pub find_on : {X : Type 0} (test : X → Bool) (s t : List X) (x : X) (all : Option X) → s ≡ x ∷ t → test x ≡ false → find test s ≡ all → find test t ≡ all
find_on {X} test s t x all is fails left = sym (ap (λ (b : Bool). cond {A = Option X} b (Some x) (find test t)) fails) ∙ (sym (ap (find test) is) ∙ left)

pub find_nowhere : {X : Type 0} (test : X → Bool) (s : List X) (all : Option X) → s ≡ [] → find test s ≡ all → None ≡ all
find_nowhere test s all is left = sym (ap (find test) is) ∙ left
