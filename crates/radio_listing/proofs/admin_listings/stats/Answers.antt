use Rattle.radio_listing.specs.Admin.{stats_data, stats_text}
use Rattle.radio_listing.proofs.AdminLemmas.{stats_quiet, stats_shallow}
use Rattle.radio_listing.proofs.JsonLemmas.{read_written, text_written}
use Rattle.serde_json.specs.View.{view}
use Rattle.radio_listing.proofs.admin_listings.stats.Goals as goal

pub returns-clause-text : goal.returns-clause-text
unfolding stats_text
returns-clause-text c =
    text_written (λ b. b.items) c.to_vec.result (view c.in_ok-value.value) (stats_data c.args.clients c.args.rows.now)
    c.in_ok-value.ensures (stats_quiet c.args.clients c.args.rows.now) c.to_vec.ensures.text

pub returns-clause-reads_back : goal.returns-clause-reads_back
returns-clause-reads_back c =
    read_written (λ b. b.items) c.to_vec.result (view c.in_ok-value.value) (stats_data c.args.clients c.args.rows.now)
    c.in_ok-value.ensures (stats_shallow c.args.clients c.args.rows.now) c.to_vec.ensures.reads_back
