use Rattle.std.proofs.Common.{◌≡◌, ℕ, Bool, true, ◌&&◌, List, [], ◌∷◌, sym, ◌∙◌, rules}
use Rattle.std.specs.List.{fold, list_all}
use Rattle.std.proofs.lemmas.Iterator.{YieldsList-from_slice}
use Rattle.std.proofs.lemmas.Iterator.Consumers.{fold_from_yields_List}
use mathlib.Core.Bool.{and_assoc, and-true}
use Rattle.spelling.specs.Settling.{allowed}
use Rattle.spelling.proofs.settling.all_allowed.Goals as goal

-- what came before, and the bytes to come
folded : (all : Bool) (text : List ℕ) → fold (λ all b. all && allowed b) all text ≡ (all && list_all allowed text)
folded all [] = sym (and-true all)
folded all (b ∷ bs) = folded (all && allowed b) bs ∙ and_assoc all (allowed b) (list_all allowed bs)

pub returns : goal.returns
returns c =
    fold_from_yields_List _ (λ all b. all && allowed b) true c.fold.result c.fold.ensures.ran (YieldsList-from_slice c.args.text.now cc) (λ a x b q h. search rules)
    ∙ folded true c.args.text.now
