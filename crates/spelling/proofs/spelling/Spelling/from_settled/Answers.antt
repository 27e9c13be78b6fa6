use Rattle.std.proofs.Common.{◌≡◌, ℕ, ◌-◌, List, ◌++◌, length, take, drop, replicate, refl}
use Rattle.std.proofs.lemmas.List.{drop-replicate, take_at}
use Rattle.spelling.proofs.spelling.Spelling.from_settled.Goals as goal

-- a text written over the front of zeros is the text, and zeros after it
pub invariant_of-result : goal.invariant_of-result
invariant_of-result c =
    let blank : List ℕ = replicate 40 0 in
    let n = length c.args.text.now in
    let kept : take n (c.copy_from_slice.new.self ++ drop n blank) ≡ c.args.text.now = rw c.copy_from_slice.ensures.after (take_at c.args.text.now (drop n blank) n refl) in
    let zeros : drop n blank ≡ replicate (40 - n) 0 = drop-replicate n 40 0 in
    rw kept (c.requires, rw c.copy_from_slice.ensures.after (rw zeros refl), refl)
