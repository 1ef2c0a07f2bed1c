-- One root more, and all roots of a candidate one after another.
use Rattle.std.proofs.Common.{◌≡◌, ℕ, ◌+◌, ◌<◌, ◌≤◌, ◌⊎◌, List, [], ◌∷◌, ◌++◌, map, length, get_or, take, set, None, sym, refl, ap, ◌∙◌, ap₂, inl, inr, append-nil, add-zero, zero-add, arith}
use lib.Bits.{bit_or}
use Rattle.std.proofs.lemmas.List.FromFn.{length-map-range_with_len, get_or-map-range_with_len, fill_by_all}
use Rattle.std.proofs.lemmas.List.{take_more_set, length-take-le, length-map, get_or_past}
use Rattle.std.proofs.lemmas.Bool.{cases_lt}
use Rattle.std.specs.List.{range_with_len}
use Rattle.numbering.specs.Choice.{Choice}
use Rattle.laying.specs.Pairs.{row}
use Rattle.laying.specs.Events.{size, types, arounds, precs}
use Rattle.laying.specs.Beginning.{whole, starts, Beginning, beginning_of}
use Rattle.laying.specs.Lays.{laid_events, types_in, around_in, rows_in, row_at, shown, Lays}
use Rattle.laying.specs.declared.laid.Laid.{Laid}
use Rattle.laying.proofs.Rows.{row_outside}
use Rattle.laying.proofs.Stay.{size-append, types-append, arounds-append, row_precs-append, starts-append}

-- One root more.

alone_size : (x : Choice) → size (whole (x ∷ [])) ≡ size x
unfolding size
alone_size x = add-zero (size x)

alone_types : (x : Choice) → types (whole (x ∷ [])) ≡ types x
unfolding types
alone_types x = append-nil (types x)

alone_arounds : (n : ℕ) (x : Choice) → arounds None n (whole (x ∷ [])) ≡ arounds None n x
unfolding arounds
alone_arounds n x = append-nil (arounds None n x)

alone_row : (n a : ℕ) (x : Choice) → row (precs n (whole (x ∷ []))) a ≡ row (precs n x) a
unfolding precs
alone_row n a x = ap (λ l. row l a) (append-nil (precs n x))

alone_start : (n : ℕ) (x : Choice) → starts n (x ∷ []) ≡ n ∷ []
unfolding starts
alone_start n x = refl

module _ (xs : List Choice) (l : Laid) (e : shown l ≡ beginning_of xs) where
  shown_types : types_in (laid_events l) ≡ types (whole xs)
  unfolding shown beginning_of
  shown_types = ap (λ (b : Beginning). b.types) e

  shown_arounds : around_in (laid_events l) ≡ arounds None 0 (whole xs)
  unfolding shown beginning_of
  shown_arounds = ap (λ (b : Beginning). b.around) e

  shown_rows : rows_in (laid_events l) ≡ map (row (precs 0 (whole xs))) (range_with_len 0 (size (whole xs)))
  unfolding shown beginning_of
  shown_rows = ap (λ (b : Beginning). b.precedes) e

  shown_starts : take l.roots l.starts ≡ starts 0 xs
  unfolding shown beginning_of
  shown_starts = ap (λ (b : Beginning). b.starts) e

  shown_row : (a : ℕ) → row_at l a ≡ row (precs 0 (whole xs)) a
  shown_row a = ap (λ rs. get_or rs a 0) shown_rows ∙ go (cases_lt a (size (whole xs)))
    where
      here : List ℕ
      here = map (row (precs 0 (whole xs))) (range_with_len 0 (size (whole xs)))

      go : (a < size (whole xs)) ⊎ (size (whole xs) ≤ a) → get_or here a 0 ≡ row (precs 0 (whole xs)) a
      go (inl h) = get_or-map-range_with_len (row (precs 0 (whole xs))) 0 (size (whole xs)) a a 0 h (zero-add a)
      go (inr h) = get_or_past here a 0 (omega (arith, length-map-range_with_len (row (precs 0 (whole xs))) 0 (size (whole xs)))) ∙ sym (row_outside 0 (whole xs) a (inr (omega arith)))

  shown_len : l.len ≡ size (whole xs)
  shown_len =
      sym (length-take-le l.len l.events (omega (arith, l.events_few, l.events_here))) ∙ (sym (length-map (laid_events l) _) ∙ (ap length shown_rows ∙ length-map-range_with_len (row (precs 0 (whole xs))) 0 (size (whole xs))))

-- the places that a root takes are marked before it is laid
pub record Marked (old mid : Laid) : Type 0 where
  pub len : mid.len ≡ old.len
  pub events : mid.events ≡ old.events
  pub roots : mid.roots ≡ old.roots + 1
  pub starts : mid.starts ≡ set old.starts old.roots old.len
  pub room : old.roots < length old.starts

module _ (x : Choice) (old mid new : Laid) (k : Marked old mid) (y : Lays None x mid new) (xs : List Choice) (e : shown old ≡ beginning_of xs) where
  same_events : laid_events mid ≡ laid_events old
  same_events = ap₂ take k.len k.events

  here : mid.len ≡ 0 + size (whole xs)
  here = k.len ∙ (shown_len xs old e ∙ sym (zero-add (size (whole xs))))

  new_len : new.len ≡ size (whole (xs ++ (x ∷ [])))
  new_len = y.len ∙ (ap (λ n. n + size x) (k.len ∙ shown_len xs old e) ∙ (ap (λ n. size (whole xs) + n) (sym (alone_size x)) ∙ sym (size-append xs (x ∷ []))))

  new_types : types_in (laid_events new) ≡ types (whole (xs ++ (x ∷ [])))
  new_types =
      y.types ∙ (ap₂ (λ u v. u ++ v) (ap types_in same_events ∙ shown_types xs old e) (sym (alone_types x)) ∙ sym (types-append xs (x ∷ [])))

  new_arounds : around_in (laid_events new) ≡ arounds None 0 (whole (xs ++ (x ∷ [])))
  new_arounds =
      y.around
      ∙ (ap₂ (λ u v. u ++ v) (ap around_in same_events ∙ shown_arounds xs old e) (ap (λ n. arounds None n x) here ∙ sym (alone_arounds (0 + size (whole xs)) x))
      ∙ sym (arounds-append None 0 xs (x ∷ [])))

  new_row : (a : ℕ) → row_at new a ≡ row (precs 0 (whole (xs ++ (x ∷ [])))) a
  new_row a =
      y.rows a
      ∙ (ap₂ bit_or (ap (λ es. get_or (rows_in es) a 0) same_events ∙ shown_row xs old e a) (ap (λ n. row (precs n x) a) here ∙ sym (alone_row (0 + size (whole xs)) a x)) ∙ sym (row_precs-append 0 xs (x ∷ []) a))

  new_starts : take new.roots new.starts ≡ starts 0 (xs ++ (x ∷ []))
  new_starts =
      ap₂ (λ n l. take n l) (y.roots ∙ k.roots) (y.starts ∙ k.starts)
      ∙ (take_more_set old.starts old.roots old.len k.room
      ∙ (ap₂ (λ u v. u ++ v) (shown_starts xs old e) (ap (λ n. n ∷ []) (sym k.len ∙ here) ∙ sym (alone_start (0 + size (whole xs)) x)) ∙ sym (starts-append 0 xs (x ∷ []))))

  new_rows : rows_in (laid_events new) ≡ map (row (precs 0 (whole (xs ++ (x ∷ []))))) (range_with_len 0 (size (whole (xs ++ (x ∷ [])))))
  new_rows =
      fill_by_all (row (precs 0 (whole (xs ++ (x ∷ []))))) (rows_in (laid_events new)) (size (whole (xs ++ (x ∷ [])))) 0
      (length-map (laid_events new) _ ∙ (length-take-le new.len new.events (omega (arith, new.events_few, new.events_here)) ∙ new_len)) (λ a h. new_row a)

  pub one_more_root : shown new ≡ beginning_of (xs ++ (x ∷ []))
  unfolding shown beginning_of
  one_more_root i = record { types = new_types i; around = new_arounds i; precedes = new_rows i; starts = new_starts i }
