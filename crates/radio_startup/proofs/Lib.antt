mod StepsLemmas
