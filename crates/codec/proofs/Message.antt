-- A message in any format: what is written reads back as itself, what is read is what would be written, a refusal stands at
-- one place alone, and no message begins so and goes on so. Assumes nothing.
use mathlib.Core.Path.{◌≡◌, refl, sym, ap, subst, ◌∙◌}
use mathlib.Core.Bool.{Bool, true, false, cond}
use mathlib.Core.Logic.{◌⊎◌, inl, inr}
use mathlib.Core.List.{List, [], ◌∷◌, ◌++◌, append_assoc, append-nil}
use Prim.Native.Nat.{ℕ, ◌+◌, ◌-◌, ◌≤◌, ◌<◌}
use native.Mathlib.Omega.{arith}
use borrow.Author.Tests.{le-leb, lt-leb}
use lib.Dec.{leb}
use lib.ListN.{length, take, drop, length-append, length-drop, take-append-drop}
use lib.Seq.{take_at, drop_at, take-add, length-take-le}
use Rattle.lists.specs.Lists.{all}
use Rattle.lists.proofs.Tests.{and_left, le_or_lt}
use Rattle.codec.specs.Theorems.{Bytes}
use Rattle.codec.specs.Theorems.{is_whole, joined}
use Rattle.codec.specs.Format.{Res, got, stopped, Codec, malformed}
use Rattle.codec.specs.Message.{Reading, whole, refused, finish, reading}
use Rattle.codec.specs.Theorems.{Messages, RefusalPlace}
use Rattle.codec.proofs.Fields.{no_empty, Further, further}
use Rattle.codec.proofs.Formats.{Lawful}
use Rattle.codec.proofs.Places.{rest_of, moved, SameField, Placed, Numbered}

-- ---- the outcome of a reading
whole_not : {M : Type 0} (why place : ℕ) (v : M) → refused why place ≡ whole v → ⊥
whole_not why place v e = cc

pub same_whole : {M : Type 0} (v w : M) → whole v ≡ whole w → v ≡ w
same_whole v w e = cc

module _ {A M : Type 0} (c : Codec A) (from_parts : A → M) (most : ℕ) (bs : List ℕ) where
  pub short_reading : length bs ≤ most → reading c from_parts most bs ≡ finish from_parts (length bs) (c.read bs)
  unfolding reading
  short_reading h = rw (le-leb (length bs) most h)

  -- longer bytes are refused at the limit
  pub longer : most < length bs → reading c from_parts most bs ≡ refused malformed most
  unfolding reading
  longer h = rw (lt-leb (length bs) most h)

  -- what a reading to the end found
  pub record Found (v : M) : Type 0 where
    pub parts : A
    pub read : c.read bs ≡ got parts []
    pub value : from_parts parts ≡ v

  finish_says : (v : M) (n : ℕ) (r : Res A) → c.read bs ≡ r → finish from_parts n r ≡ whole v → Found v
  finish_says v n (got a []) e h = record { parts = a; read = e; value = same_whole (from_parts a) v h }
  finish_says v n (got a (x ∷ rest)) e h = absurd (whole_not malformed (n - length (x ∷ rest)) v h)
  finish_says v n (stopped why rest) e h = absurd (whole_not why (n - length rest) v h)

  pub found : (v : M) → reading c from_parts most bs ≡ whole v → Found v
  unfolding reading
  found v h = by (leb (length bs) most) h
    where
      by : (t : Bool) → cond t (finish from_parts (length bs) (c.read bs)) (refused malformed most) ≡ whole v → Found v
      by true h = finish_says v (length bs) (c.read bs) refl h
      by false h = absurd (whole_not malformed most v h)

  same_place : (a b m n : ℕ) → ◌≡◌ {A = Reading M} (refused a m) (refused b n) → m ≡ n
  same_place a b m n e = cc

  finish_place : (n : ℕ) (r : Res A) (why place : ℕ) → finish from_parts n r ≡ refused why place → n - length (rest_of r) ≡ place
  finish_place n (got a []) why place e = absurd (whole_not why place (from_parts a) (sym e))
  finish_place n (got a (x ∷ rest)) why place e = same_place malformed why (n - length (x ∷ rest)) place e
  finish_place n (stopped k rest) why place e = same_place k why (n - length rest) place e

  -- the place of a refusal is where the format stopped
  pub stops_at : length bs ≤ most → (why place : ℕ) → reading c from_parts most bs ≡ refused why place → length bs - length (rest_of (c.read bs)) ≡ place
  stops_at h why place e = finish_place (length bs) (c.read bs) why place (sym (short_reading h) ∙ e)

  -- a format that gives 13 alone makes messages that do
  finish_number : Numbered c malformed → (n : ℕ) (r : Res A) → c.read bs ≡ r → (why place : ℕ) → finish from_parts n r ≡ refused why place → why ≡ malformed
  finish_number s n (got a []) f why place e = absurd (whole_not why place (from_parts a) (sym e))
  finish_number s n (got a (x ∷ rest)) f why place e = cc
  finish_number s n (stopped w rest) f why place e = let q = s.only bs w rest f in cc

  pub refused_malformed : Numbered c malformed → (why place : ℕ) → reading c from_parts most bs ≡ refused why place → why ≡ malformed
  unfolding reading
  refused_malformed s why place h = by (leb (length bs) most) h
    where
      by : (t : Bool) → cond t (finish from_parts (length bs) (c.read bs)) (refused malformed most) ≡ refused why place → why ≡ malformed
      by true h = finish_number s (length bs) (c.read bs) refl why place h
      by false h = cc

-- ---- the place and the bytes on both sides of it
module _ (bs front rest : List ℕ) (e : bs ≡ front ++ rest) where
  abbrev place : ℕ
  place = length bs - length rest

  at : length front ≡ place
  at = omega (arith, ap length e, length-append front rest)

  front_is : take place bs ≡ front
  front_is = ap (take place) e ∙ take_at front rest place at

  rest_is : drop place bs ≡ rest
  rest_is = ap (drop place) e ∙ drop_at front rest place at

-- ---- no other place is the first wrong field
module _ {M : Type 0} (Says : M → List ℕ → Type 0) where
  -- at an earlier place the field found is whole, and a message goes on with it
  not_before : (bs : List ℕ) (p q : ℕ) → RefusalPlace Says bs p → RefusalPlace Says bs q → p < q → ⊥
  unfolding joined
  not_before bs p q s t h = by r.more r.whole r.left
    where
      between : List ℕ
      between = take (q - p) (drop p bs)

      behind : List ℕ
      behind = drop (q - p) (drop p bs)

      cut : take q bs ≡ take p bs ++ between
      cut = let e : q ≡ p + (q - p) = omega arith in ap (λ (n : ℕ). take n bs) e ∙ take-add p (q - p) bs

      some : length between ≡ q - p
      some = length-take-le (q - p) (drop p bs) (rw (length-drop p bs) (omega (arith, t.inside)))

      r : Further s.fields t.fields between
      r = further s.fields t.fields between s.all_whole t.all_whole (ap (λ (m : List ℕ). m ++ between) (sym s.before) ∙ sym cut ∙ t.before)

      by : (more : List (List ℕ)) → all is_whole more ≡ true → between ≡ joined more → ⊥
      by [] w e = omega (arith, some, ap length e)
      by (first ∷ more) w e =
          let found-there : drop p bs ≡ first ++ (joined more ++ behind) =
          sym (take-append-drop (q - p) (drop p bs)) ∙ ap (λ (m : List ℕ). m ++ behind) e ∙ append_assoc first (joined more) behind in
          let goes_on : take q bs ++ t.more ≡ take p bs ++ (first ++ (joined more ++ t.more)) =
          ap (λ (m : List ℕ). m ++ t.more) (cut ∙ ap (λ (m : List ℕ). take p bs ++ m) e) ∙ append_assoc (take p bs) (first ++ joined more) t.more ∙ ap (λ (m : List ℕ). take p bs ++ m) (append_assoc first (joined more) t.more) in
          s.no_field first (joined more ++ behind) (and_left (is_whole first) (all is_whole more) w) found-there t.value (joined more ++ t.more) (subst (Says t.value) goes_on t.begins)

  pub one_place : (bs : List ℕ) (p q : ℕ) → RefusalPlace Says bs p → RefusalPlace Says bs q → p ≡ q
  one_place bs p q s t = by (le_or_lt p q) (le_or_lt q p)
    where
      by : (p ≤ q) ⊎ (q < p) → (q ≤ p) ⊎ (p < q) → p ≡ q
      by (inr h) k = absurd (not_before bs q p t s h)
      by (inl h) (inr k) = absurd (not_before bs p q s t k)
      by (inl h) (inl k) = omega arith

-- a reading that stops before a field does so whatever follows that field
moved_not : {A : Type 0} (first other : List ℕ) → is_whole first ≡ true → (r : Res A) (a : A) → moved r (first ++ other) ≡ got a [] → ⊥
moved_not first other h (got q rest) a e = no_empty first other h cc
moved_not first other h (stopped n rest) a e = cc

-- ---- reading and writing agree
module _ {A M : Type 0} {c : Codec A} {from_parts : A → M} {parts : M → A} {Says : M → List ℕ → Type 0} {lo hi : ℕ} (l : Lawful c lo hi) (m : Messages c from_parts parts Says) where
  -- a message is read to its end
  pub all_read : (v : M) (bs : List ℕ) → Says v bs → c.read bs ≡ got (parts v) []
  all_read v bs s =
      ap c.read (sym (m.is v bs s) ∙ sym (append-nil (c.write (parts v)))) ∙ l.there (parts v) [] (m.ok v bs s) tt

  -- what the format takes to the end is the message of the value that is made of it
  pub taken : (bs : List ℕ) (a : A) → Bytes bs → c.read bs ≡ got a [] → Says (from_parts a) bs
  taken bs a b e =
      let k = l.back bs a [] b e in
      subst (Says (from_parts a)) (sym (k.0 ∙ append-nil (c.write a))) (m.said a k.1)

  -- two values with the same message are one
  pub same_message : (v w : M) (bs : List ℕ) → Says v bs → Says w bs → v ≡ w
  same_message v w bs s t =
      let e : parts v ≡ parts w = same_got (sym (all_read v bs s) ∙ all_read w bs t) in
      sym (m.back v bs s) ∙ ap from_parts e ∙ m.back w bs t
    where
      same_got : {a b : A} → got a [] ≡ got b [] → a ≡ b
      same_got e = cc

  module _ (most : ℕ) where
    -- what is written reads back as itself
    pub written_read : (v : M) (bs : List ℕ) → Says v bs → length bs ≤ most → reading c from_parts most bs ≡ whole v
    written_read v bs s h =
        short_reading c from_parts most bs h ∙ ap (finish from_parts (length bs)) (all_read v bs s) ∙ ap whole (m.back v bs s)

    -- what is read is what would be written
    pub read_written : (bs : List ℕ) (v : M) → Bytes bs → reading c from_parts most bs ≡ whole v → Says v bs
    read_written bs v b h =
        let r = found c from_parts most bs v h in
        subst (λ (x : M). Says x bs) r.value (taken bs r.parts b r.read)

    pub refused_not : (v : M) (bs : List ℕ) → length bs ≤ most → (why place : ℕ) → reading c from_parts most bs ≡ refused why place → Says v bs → ⊥
    refused_not v bs h why place e s = whole_not why place v (sym e ∙ written_read v bs s h)

  -- ---- where a refused reading stands
  module _ (p : Placed c) where
    -- no message begins so and goes on so
    pub goes_not : (front rest first after other : List ℕ) → is_whole first ≡ true → rest ≡ first ++ after → rest_of (c.read (front ++ rest)) ≡ rest
        → (v : M) → Says v (front ++ (first ++ other)) → ⊥
    goes_not front rest first after other h e stop v s =
        let same : SameField rest (first ++ other) = record { first = first; whole = h; after = after; other = other; is = e; so = refl } in
        let a = p.alike front rest (first ++ other) same stop in
        moved_not first other h (c.read (front ++ rest)) (parts v) (sym a ∙ all_read v (front ++ (first ++ other)) s)

    -- what stands before the place, with which some message begins
    record Started (bs rest : List ℕ) : Type 0 where
      front : List ℕ
      is : bs ≡ front ++ rest
      value : M
      more : List ℕ
      begins : Says value (front ++ more)

    -- where the reading stops, and where something is left
    started : (bs : List ℕ) → Bytes bs → (r : Res A) → c.read bs ≡ r → Started bs (rest_of r)
    started bs b (got a rest) e =
        let k = l.back bs a rest b e in
        record { front = c.write a; is = k.0; value = from_parts a; more = []; begins = subst (Says (from_parts a)) (sym (append-nil (c.write a))) (m.said a k.1) }
    started bs b (stopped n rest) e =
        let k = p.begun bs n rest b e in
        record { front = k.front; is = k.is; value = from_parts k.value; more = k.more; begins = subst (Says (from_parts k.value)) k.begins (m.said k.value k.ok) }

    place_at : (bs rest : List ℕ) → rest_of (c.read bs) ≡ rest → ((v : M) → Says v bs → ⊥) → Started bs rest → RefusalPlace Says bs (length bs - length rest)
    place_at bs rest stop never s =
        let w = p.fields bs in
        let wi : bs ≡ joined w.fields ++ rest = w.is ∙ ap (λ (r : List ℕ). joined w.fields ++ r) stop in
        let fi : take (length bs - length rest) bs ≡ s.front = front_is bs s.front rest s.is in
        let ri : drop (length bs - length rest) bs ≡ rest = rest_is bs s.front rest s.is in
        let stop-at : rest_of (c.read (s.front ++ rest)) ≡ rest = ap (λ (k : List ℕ). rest_of (c.read k)) (sym s.is) ∙ stop in
        record {
          inside = omega arith;
          fields = w.fields;
          all_whole = w.whole;
          before = front_is bs (joined w.fields) rest wi;
          value = s.value;
          more = s.more;
          begins = rw fi s.begins;
          no_field = λ first after h e v other f. goes_not s.front rest first after other h (sym ri ∙ e) stop-at v (rw fi at f);
          no_end = never;
        }

    module _ (most : ℕ) where
      -- bytes that are not too long and are refused
      pub refusal_place : (bs : List ℕ) (why place : ℕ) → Bytes bs → length bs ≤ most → reading c from_parts most bs ≡ refused why place → RefusalPlace Says bs place
      refusal_place bs why place b h e =
          subst (RefusalPlace Says bs) (stops_at c from_parts most bs h why place e)
          (place_at bs (rest_of (c.read bs)) refl (λ v. refused_not most v bs h why place e) (started bs b (c.read bs) refl))

      -- the place beside a refused reading is the only such one
      pub place_alone : (bs : List ℕ) → Bytes bs → length bs ≤ most → (why place : ℕ) → reading c from_parts most bs ≡ refused why place → (q : ℕ) → RefusalPlace Says bs q → q ≡ place
      place_alone bs b h why place e q s = one_place Says bs q place s (refusal_place bs why place b h e)
