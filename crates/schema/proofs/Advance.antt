-- Reading a list of items step by step; the writing of a schema passes, and leaves that schema.
use Rattle.std.proofs.Common.{◌≡◌, ℕ, ◌+◌, ◌<◌, ◌≤◌, false, List, [], ◌∷◌, ◌++◌, length, sym, refl, ap, ◌∙◌, subst, append_assoc, append-nil, arith, length-append}
use Rattle.std.proofs.lemmas.Bool.{ne_eqb}
use Rattle.grammar.specs.Pattern.{Pattern, nothing, atom, event, both, either, repeat}
use Rattle.grammar.specs.Schema.{Rooted, Operation, relate, at_most, Schema}
use Rattle.grammar.specs.declared.part.Relation.{Relation}
use Rattle.grammar.specs.declared.part.Relation.TheVariants.{Share, Coordinate, AsMany, NoMore, FewerBefore}
use Rattle.grammar.specs.declared.part.Selection.{Selection}
use Rattle.schema.specs.Reading.{State, start, step, made, earlier, later}
use Rattle.schema.specs.Questions.{encloses}
use Rattle.schema.specs.Writing.{written, roots_written, operation_written, operations_written, items_of}
use Rattle.grammar.specs.Fits.{Small, Fits, RootsFit, Leaf, Leaves, Selects, Relates, Operates, Operate}
use Rattle.items.specs.declared.ask.Tally.{Tally}
use Rattle.items.specs.declared.item.Item.{Item}
use Rattle.items.specs.declared.item.Item.TheVariants.{Nothing, Atom, Event, Both, Either, Repeat, Root, Pick, Relate, AtMost, Unknown}
use Rattle.items.proofs.Passing.{Found, Suited}
use Rattle.schema.proofs.Steps.{tallied}

abbrev pub advance : List Item → State → State
advance [] S = S
advance (it ∷ its) S = advance its (step it S)

pub advance-append : (xs ys : List Item) (S : State) → advance (xs ++ ys) S ≡ advance ys (advance xs S)
advance-append [] ys S = refl
advance-append (x ∷ xs) ys S = advance-append xs ys (step x S)

-- no item is an event with an inside, or a root, of type t
abbrev pub Unenclosed : ℕ → List Item → Type 0
Unenclosed t [] = Unit {0}
Unenclosed t (it ∷ its) = (encloses it t ≡ false) × Unenclosed t its

-- question 7 of a relation, and of an item, over all items of the table
abbrev pub Related : List Item → Relation → Selection → Selection → Type 0
Related all Share x y = (x.event ≡ y.event) × (x.root ≡ y.root → ⊥) × Unenclosed x.event all
Related all Coordinate x y = Unit {0}
Related all AsMany x y = Unit {0}
Related all NoMore x y = Unit {0}
Related all FewerBefore x y = Unit {0}

abbrev pub Shared : List Item → Item → List Selection → Type 0
Shared all Nothing xs = Unit {0}
Shared all (Atom t) xs = Unit {0}
Shared all (Event t) xs = Unit {0}
Shared all (Both o) xs = Unit {0}
Shared all Either xs = Unit {0}
Shared all (Repeat o a b) xs = Unit {0}
Shared all (Root t) xs = Unit {0}
Shared all (Pick x) xs = Unit {0}
Shared all (Relate r) xs = Related all r (earlier xs) (later xs)
Shared all (AtMost n) xs = Unit {0}
Shared all Unknown xs = Unit {0}

abbrev pub tally : ℕ → State → Tally
tally r S = tallied r (length S.roots) (length S.patterns) (length S.picks)

-- the item passes questions 4 to 9
pub record Good (s r : ℕ) (all : List Item) (it : Item) (S : State) : Type 0 where
  pub suited : Suited s r it
  pub found : Found (tally r S) it
  pub shared : Shared all it S.picks
  pub small : Small s (made it S.patterns)

abbrev pub Passing : ℕ → ℕ → List Item → List Item → State → Type 0
Passing s r all [] S = Unit {0}
Passing s r all (it ∷ its) S = Good s r all it S × Passing s r all its (step it S)

pub join : (s r : ℕ) (all xs ys : List Item) (S : State) → Passing s r all xs S → Passing s r all ys (advance xs S) → Passing s r all (xs ++ ys) S
join s r all [] ys S a b = b
join s r all (x ∷ xs) ys S a b = (a.0, join s r all xs ys (step x S) a.1 b)

pub split : (s r : ℕ) (all xs ys : List Item) (S : State) → Passing s r all (xs ++ ys) S → Passing s r all xs S × Passing s r all ys (advance xs S)
split s r all [] ys S a = (tt, a)
split s r all (x ∷ xs) ys S a = let u = split s r all xs ys (step x S) a.1 in ((a.0, u.0), u.1)

join_at : (s r : ℕ) (all xs ys : List Item) (S T : State) → advance xs S ≡ T → Passing s r all xs S → Passing s r all ys T → Passing s r all (xs ++ ys) S
join_at s r all xs ys S T e a b = join s r all xs ys S a (subst (Passing s r all ys) (sym e) b)

pub after : (xs ys : List Item) (S T : State) → advance xs S ≡ T → advance (xs ++ ys) S ≡ advance ys T
after xs ys S T e = advance-append xs ys S ∙ ap (advance ys) e

-- Patterns.

abbrev pub push : Pattern → State → State
push p S = record { patterns = p ∷ S.patterns; roots = S.roots; picks = S.picks; operations = S.operations }

pub wrote : (p : Pattern) (S : State) → advance (written p) S ≡ push p S
wrote nothing S = refl
wrote (atom t) S = refl
wrote (event t p) S = after (written p) (Event t ∷ []) S (push p S) (wrote p S)
wrote (both o p q) S = after (written p) (written q ++ (Both o ∷ [])) S (push p S) (wrote p S) ∙ after (written q) (Both o ∷ []) (push p S) (push q (push p S)) (wrote q (push p S))
wrote (either p q) S = after (written p) (written q ++ (Either ∷ [])) S (push p S) (wrote p S) ∙ after (written q) (Either ∷ []) (push p S) (push q (push p S)) (wrote q (push p S))
wrote (repeat o a b p) S = after (written p) (Repeat o a b ∷ []) S (push p S) (wrote p S)

module _ (s r : ℕ) (all : List Item) where
  passes_pattern : (p : Pattern) (S : State) → Fits s p → length S.roots < r → Passing s r all (written p) S
  passes_pattern nothing S f lt = (record { suited = tt; found = lt; shared = tt; small = (omega arith, omega arith) }, tt)
  passes_pattern (atom t) S f lt = (record { suited = f; found = lt; shared = tt; small = (omega arith, omega arith) }, tt)
  passes_pattern (event t p) S f lt =
      join_at s r all (written p) (Event t ∷ []) S (push p S) (wrote p S) (passes_pattern p S f.0 lt)
      (record { suited = f.1; found = (lt, omega arith); shared = tt; small = f.2 }, tt)
  passes_pattern (both o p q) S f lt =
      join_at s r all (written p) (written q ++ (Both o ∷ [])) S (push p S) (wrote p S) (passes_pattern p S f.0 lt)
      (join_at s r all (written q) (Both o ∷ []) (push p S) (push q (push p S)) (wrote q (push p S)) (passes_pattern q (push p S) f.1 lt)
      (record { suited = tt; found = (lt, omega arith); shared = tt; small = f.2 }, tt))
  passes_pattern (either p q) S f lt =
      join_at s r all (written p) (written q ++ (Either ∷ [])) S (push p S) (wrote p S) (passes_pattern p S f.0 lt)
      (join_at s r all (written q) (Either ∷ []) (push p S) (push q (push p S)) (wrote q (push p S)) (passes_pattern q (push p S) f.1 lt)
      (record { suited = tt; found = (lt, omega arith); shared = tt; small = f.2 }, tt))
  passes_pattern (repeat o a b p) S f lt =
      join_at s r all (written p) (Repeat o a b ∷ []) S (push p S) (wrote p S) (passes_pattern p S f.0 lt)
      (record { suited = f.1; found = (lt, omega arith); shared = tt; small = f.2 }, tt)

-- Roots and operations.

-- where nothing waits
abbrev pub between : List Rooted → List Operation → State
between rs os = record { patterns = []; roots = rs; picks = []; operations = os }

wrote_roots : (rs done : List Rooted) → advance (roots_written rs) (between done []) ≡ between (done ++ rs) []
wrote_roots [] done = ap (λ l. between l []) (sym (append-nil done))
wrote_roots (x ∷ rs) done =
    after (written x.pattern) (Root x.event ∷ roots_written rs) (between done []) (push x.pattern (between done [])) (wrote x.pattern (between done []))
    ∙ (wrote_roots rs (done ++ (x ∷ [])) ∙ ap (λ l. between l []) (append_assoc done (x ∷ []) rs))

wrote_operation : (rs : List Rooted) (done : List Operation) (o : Operation) → advance (operation_written o) (between rs done) ≡ between rs (done ++ (o ∷ []))
wrote_operation rs done (relate r x y) = refl
wrote_operation rs done (at_most n x) = refl

wrote_operations : (rs : List Rooted) (os done : List Operation) → advance (operations_written os) (between rs done) ≡ between rs (done ++ os)
wrote_operations rs [] done = ap (between rs) (sym (append-nil done))
wrote_operations rs (o ∷ os) done =
    after (operation_written o) (operations_written os) (between rs done) (between rs (done ++ (o ∷ []))) (wrote_operation rs done o)
    ∙ (wrote_operations rs os (done ++ (o ∷ [])) ∙ ap (between rs) (append_assoc done (o ∷ []) os))

module _ (s r : ℕ) (all : List Item) where
  passes_roots : (rs done : List Rooted) → RootsFit s rs → length done + length rs ≤ r → Passing s r all (roots_written rs) (between done [])
  passes_roots [] done f h = tt
  passes_roots (x ∷ rs) done f h =
      join_at s r all (written x.pattern) (Root x.event ∷ roots_written rs) (between done []) (push x.pattern (between done [])) (wrote x.pattern (between done []))
      (passes_pattern s r all x.pattern (between done []) f.0.0 (omega arith)) (
        record { suited = f.0.1; found = (omega arith, refl); shared = tt; small = f.0.2 },
        passes_roots rs (done ++ (x ∷ [])) f.1 (simp length-append (omega arith)),
      )

  picks_one : (x : Selection) (S : State) → length S.roots ≡ r → length S.picks ≤ 1 → Selects r x → Good s r all (Pick x) S
  picks_one x S e p h = record { suited = h; found = (e, p); shared = tt; small = (omega arith, omega arith) }

  related : (rs : List Rooted) (o : Relation) (x y : Selection) → ((t : ℕ) → Leaves t rs → Unenclosed t all) → Relates rs o x y → Related all o x y
  related rs Share x y u h = (h.0, h.1, u x.event h.2)
  related rs Coordinate x y u h = tt
  related rs AsMany x y u h = tt
  related rs NoMore x y u h = tt
  related rs FewerBefore x y u h = tt

  passes_operation : (rs : List Rooted) (o : Operation) (done : List Operation) → length rs ≡ r → ((t : ℕ) → Leaves t rs → Unenclosed t all) → Operates rs o → Passing s r all (operation_written o) (between rs done)
  passes_operation rs (relate o x y) done e u h =
      let a : Selects r x = rw (sym e) h.0 in
      let b : Selects r y = rw (sym e) h.1 in (
        picks_one x (between rs done) e (omega arith) a,
        (
          picks_one y (step (Pick x) (between rs done)) e (omega arith) b,
          (record { suited = tt; found = (e, refl); shared = related rs o x y u h.2; small = (omega arith, omega arith) }, tt),
        ),
      )
  passes_operation rs (at_most n x) done e u h =
      let a : Selects r x = rw (sym e) h.0 in
      (picks_one x (between rs done) e (omega arith) a, (record { suited = h.1; found = (e, refl); shared = tt; small = (omega arith, omega arith) }, tt))

  passes_operations : (rs : List Rooted) (os done : List Operation) → length rs ≡ r → ((t : ℕ) → Leaves t rs → Unenclosed t all) → Operate rs os → Passing s r all (operations_written os) (between rs done)
  passes_operations rs [] done e u h = tt
  passes_operations rs (o ∷ os) done e u h =
      join_at s r all (operation_written o) (operations_written os) (between rs done) (between rs (done ++ (o ∷ []))) (wrote_operation rs done o)
      (passes_operation rs o done e u h.0) (passes_operations rs os (done ++ (o ∷ [])) e u h.1)

-- Types that no item encloses.

pub unenclosed-append : (t : ℕ) (xs ys : List Item) → Unenclosed t xs → Unenclosed t ys → Unenclosed t (xs ++ ys)
unenclosed-append t [] ys a b = b
unenclosed-append t (x ∷ xs) ys a b = (a.0, unenclosed-append t xs ys a.1 b)

unenclosed_pattern : (t : ℕ) (p : Pattern) → Leaf t p → Unenclosed t (written p)
unenclosed_pattern t nothing h = (refl, tt)
unenclosed_pattern t (atom u) h = (refl, tt)
unenclosed_pattern t (event u p) h = unenclosed-append t (written p) (Event u ∷ []) (unenclosed_pattern t p h.0) (ne_eqb u t h.1, tt)
unenclosed_pattern t (both o p q) h =
    unenclosed-append t (written p) (written q ++ (Both o ∷ [])) (unenclosed_pattern t p h.0) (unenclosed-append t (written q) (Both o ∷ []) (unenclosed_pattern t q h.1) (refl, tt))
unenclosed_pattern t (either p q) h =
    unenclosed-append t (written p) (written q ++ (Either ∷ [])) (unenclosed_pattern t p h.0) (unenclosed-append t (written q) (Either ∷ []) (unenclosed_pattern t q h.1) (refl, tt))
unenclosed_pattern t (repeat o a b p) h = unenclosed-append t (written p) (Repeat o a b ∷ []) (unenclosed_pattern t p h) (refl, tt)

unenclosed_roots : (t : ℕ) (rs : List Rooted) → Leaves t rs → Unenclosed t (roots_written rs)
unenclosed_roots t [] h = tt
unenclosed_roots t (x ∷ rs) h = unenclosed-append t (written x.pattern) (Root x.event ∷ roots_written rs) (unenclosed_pattern t x.pattern h.0) (ne_eqb x.event t h.1, unenclosed_roots t rs h.2)

unenclosed_operations : (t : ℕ) (os : List Operation) → Unenclosed t (operations_written os)
unenclosed_operations t [] = tt
unenclosed_operations t (relate r x y ∷ os) = (refl, (refl, (refl, unenclosed_operations t os)))
unenclosed_operations t (at_most n x ∷ os) = (refl, (refl, unenclosed_operations t os))

-- the writing of a schema passes
pub passes_schema : (s : ℕ) (x : Schema) → RootsFit s x.roots → Operate x.roots x.operations → Passing s (length x.roots) (items_of x) (items_of x) start
passes_schema s x f o =
    join_at s (length x.roots) (items_of x) (roots_written x.roots) (operations_written x.operations) start (between x.roots []) (wrote_roots x.roots [])
    (passes_roots s (length x.roots) (items_of x) x.roots [] f (omega arith))
    (passes_operations s (length x.roots) (items_of x) x.roots x.operations [] refl
    (λ t h. unenclosed-append t (roots_written x.roots) (operations_written x.operations) (unenclosed_roots t x.roots h) (unenclosed_operations t x.operations)) o)

-- and leaves that schema
pub leaves_schema : (x : Schema) → advance (items_of x) start ≡ between x.roots x.operations
leaves_schema x = after (roots_written x.roots) (operations_written x.operations) start (between x.roots []) (wrote_roots x.roots []) ∙ wrote_operations x.roots x.operations []
