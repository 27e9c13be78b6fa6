use Rattle.std.proofs.Common.{◌≡◌, ℕ, ◌+◌, ◌<◌, ◌≤◌, Bool, true, false, cond, ◌&&◌, List, ◌∷◌, ◌++◌, length, get_or, take, drop, set, sym, refl, ◌∙◌, append_assoc, arith}
use Rattle.std.proofs.lemmas.List.{at_drop_more, take-set, take_more_set, drop-set-lt}
use Rattle.spelling.specs.Settling.{is_slash}
use Rattle.spelling.proofs.Squeezing.{squeezed, squeezed_more}
use Rattle.spelling.proofs.settling.squeezed.Goals as goal
use Rattle.spelling.proofs.settling.squeezed.Goals.{then-not-goes, else-not-goes}

-- what is still to come, from the byte at i on
ahead : (bs : List ℕ) (i : ℕ) (after : Bool) → i < length bs → squeezed after (drop i bs) ≡ cond (is_slash (get_or bs i 0) && after) (squeezed (is_slash (get_or bs i 0)) (drop (i + 1) bs)) (get_or bs i 0 ∷ squeezed (is_slash (get_or bs i 0)) (drop (i + 1) bs))
ahead bs i after lt = at_drop_more (squeezed after) bs i 0 lt ∙ squeezed_more after (get_or bs i 0) (drop (i + 1) bs)

-- the byte at i is kept, or left out after a slash
kept : (bs : List ℕ) (len i : ℕ) (after : Bool) → len ≤ i → i < length bs → (is_slash (get_or bs i 0) && after) ≡ false → take (len + 1) (set bs len (get_or bs i 0)) ++ squeezed (is_slash (get_or bs i 0)) (drop (i + 1) (set bs len (get_or bs i 0))) ≡ take len bs ++ squeezed after (drop i bs)
kept bs len i after behind lt first =
    let e : squeezed after (drop i bs) ≡ get_or bs i 0 ∷ squeezed (is_slash (get_or bs i 0)) (drop (i + 1) bs) = ahead bs i after lt ∙ rw first refl in
    rw (take_more_set bs len (get_or bs i 0) (omega arith), drop-set-lt (i + 1) bs len (get_or bs i 0) (omega arith), append_assoc, e) refl

left_out : (bs : List ℕ) (len i : ℕ) (after : Bool) → len ≤ i → i < length bs → (is_slash (get_or bs i 0) && after) ≡ true → take len (set bs len (get_or bs i 0)) ++ squeezed (is_slash (get_or bs i 0)) (drop (i + 1) (set bs len (get_or bs i 0))) ≡ take len bs ++ squeezed after (drop i bs)
left_out bs len i after behind lt again =
    let e : squeezed after (drop i bs) ≡ squeezed (is_slash (get_or bs i 0)) (drop (i + 1) bs) = ahead bs i after lt ∙ rw again refl in
    rw (take-set bs len (get_or bs i 0), drop-set-lt (i + 1) bs len (get_or bs i 0) (omega arith), e) refl

pub loop-i-preserved : goal.loop-i-preserved
loop-i-preserved c =
    let bs = c.loop-i.bytes in
    let behind = c.loop-i.invariant.behind in
    let lt : c.loop-i.i < length bs = omega arith in
    elim c.if-not-goes.branch [
      | then-not-goes w ↦ record {
        behind = omega (arith, w.len-is, behind);
        rest = rw w.len-is (kept bs c.loop-i.len c.loop-i.i c.loop-i.after_slash behind lt (sym c.goes.ensures ∙ w.if-not-goes.true) ∙ c.loop-i.invariant.rest);
      }
      | else-not-goes w ↦ record {
        behind = omega (arith, w.len-is, behind);
        rest = rw w.len-is (left_out bs c.loop-i.len c.loop-i.i c.loop-i.after_slash behind lt (sym c.goes.ensures ∙ w.if-not-goes.false) ∙ c.loop-i.invariant.rest);
      }
    ]
