use Rattle.std.proofs.Common.{ℕ, List, [], sym, ap, subst, ◌∙◌}
use Rattle.radio_headline.proofs.Words.{Settings, Lists, WebAnswers, Delivery, given, opening, connection_of, opening_script, Happening, log_on, brought}
use Rattle.radio_headline.proofs.Connections.{IsClosed}
use Rattle.radio_headline.proofs.LabelFacts.{known_of}
use Rattle.radio_headline.proofs.OfCourses.{course_hears}
use Rattle.radio_headline.proofs.Relays.PullCourses.{closed_pull}
use Rattle.radio_headline.proofs.Relays.PullSteps.{more_facts}
use Rattle.radio_headline.proofs.RunOfCourses.{comes, nothing_stands}
use Rattle.radio_headline.proofs.RunLemmas.{AllNowhere, IsMoment}
use Rattle.radio_headline.proofs.ServedLemmas.{all_leave_so, closed_of, nowhere_told}
use Rattle.radio_headline.proofs.Standing.{brought_joined}
use Rattle.radio_headline.proofs.laws.listeners_hear_slices.Goals as goal

pub returns : goal.returns
returns c =
    let settled = c.settled.ensures.requests in
    let within = c.heads_lie_within.ensures.requests in
    let joined = c.blocks_are_the_data.ensures.joined in
    let places = c.pieces_are_joined.ensures.place in
    let found = c.pieces_are_joined.ensures.found in
    let settled_answers = c.settled.ensures.responses in
    let within_answers = c.heads_lie_within.ensures.responses in
    let none_blocks = c.blocks_are_the_data.ensures.none in
    let in_pieces = c.cut_streams.ensures.heard in
    let afters = c.cut_streams.ensures.after in
    let more = λ (web : WebAnswers). more_facts web settled_answers within_answers joined none_blocks in_pieces afters settled within places found in
    let hears = λ (web : WebAnswers) (settings : Settings) (lists : Lists) (brought given : ℕ → List ℕ) (course : List Happening)
    (each : (label : ℕ) → IsClosed web (brought label) (log_on (opening settings lists) course label) (given label))
    (nowhere : AllNowhere (λ h. IsMoment h.event) course).
    course_hears web settings lists settled within joined places found
    (c.events_are_of_their_clients.ensures.own settings lists)
    (c.clients_and_seats_add_up.ensures.add_up settings lists)
    (c.clients_stand_by_their_events.ensures.steps settings lists)
    (c.access_is_kept.ensures.access settings lists)
    (c.whoever_may_is_served.ensures.served settings lists)
    (λ rows. (c.denials_name_the_first_rule.ensures.allows rows).0)
    (c.denials_are_the_policys.ensures.denied settings lists)
    (c.listeners_begin_at_a_block.ensures.seated settings lists)
    (c.draws_are_stretches.ensures.slices settings lists)
    (c.draws_are_stretches.ensures.cut settings lists)
    c.listeners_are_told_what_they_draw.ensures.joined
    c.listeners_are_told_what_they_draw.ensures.plain
    c.listeners_are_told_what_they_draw.ensures.woven
    c.listeners_are_told_what_they_draw.ensures.taken_out
    (c.sessions_are_their_sources.ensures.steps settings lists)
    (c.stretches_are_whole.ensures.mounts settings lists)
    (c.sessions_are_their_sources.ensures.settings settings lists)
    (c.draws_are_stretches.ensures.nobody settings lists)
    (λ events event. c.events_are_lawful.ensures settings lists events event)
    (record {
      plain = c.bodies_are_heard_as_their_data.ensures.plain;
      sized = c.bodies_are_heard_as_their_data.ensures.sized;
      chunked = c.bodies_are_heard_as_their_data.ensures.chunked;
      faulty = c.bodies_are_heard_as_their_data.ensures.faulty;
    })
    c.items_are_of_their_relay.ensures brought given course each nowhere in
    record {
      scripts = λ web settings lists deliveries text stop transcript.
          let came = comes web settings lists settled within settled_answers within_answers none_blocks in_pieces afters joined places found deliveries [] (opening_script settings lists) transcript.0 [] [] 1 text stop
          (nothing_stands web settings lists settled within settled_answers within_answers none_blocks in_pieces afters joined places found) transcript.1 in
          let stands = came.stands in
          let known = λ (label : ℕ). known_of web (brought came.performed label) (log_on (opening settings lists) came.course label) (given came.told label)
          (connection_of transcript.0.connections label) (stands.each label) in
          let each = λ (label : ℕ). subst (λ (bytes : List ℕ). IsClosed web bytes (log_on (opening settings lists) came.course label) (given came.told label))
          (sym (brought_joined came.performed came.rest label) ∙ ap (λ (ds : List Delivery). brought ds label) (sym came.parts))
          (record {
            own = (known label).own;
            facts = more web (brought came.performed label) (brought came.rest label) (log_on (opening settings lists) came.course label)
                (given came.told label) (known label).facts;
          }) in
          record {
            course = came.course;
            comes = (transcript.0, came.runs);
            lines = came.told;
            is_written = record {
              is_written = came.is_written;
              by_no_others = λ these others those e. c.transcripts_are_read_one_way.ensures others came.told those these (e ∙ sym came.is_written);
            };
            hears = hears web settings lists (brought deliveries) (given came.told) came.course each stands.nowhere;
            last_words = record {
              arrivals = c.last_words_are_told.ensures.arrivals;
              denied = c.last_words_are_told.ensures.denied;
              refused = c.last_words_are_told.ensures.refused;
              finished = c.last_words_are_told.ensures.finished;
              command = c.last_words_are_told.ensures.command;
              faulty = c.last_words_are_told.ensures.faulty;
              whole = c.last_words_are_told.ensures.whole;
              done = c.last_words_are_told.ensures.done;
            };
          };
      served = λ web settings lists course brings told moments happened.
          let w = opening settings lists in
          hears web settings lists brings told course
          (λ (label : ℕ). closed_of settled within joined places found web (more web)
          (closed_pull settled_answers within_answers joined none_blocks in_pieces afters web) (brings label) (log_on w course label) (told label)
          (all_leave_so w course label) (happened label))
          (nowhere_told course moments);
    }
